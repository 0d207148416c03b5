use Rattle.thin_form.proofs.Terms.{no_assignment_sum}
use Rattle.thin_form.proofs.forms.assignment.Goals as goal

pub returns-in_default-2-clause-assignment : goal.returns-in_default-2-clause-assignment
returns-in_default-2-clause-assignment c = no_assignment_sum c.args.target.now c.args.value.now (rw c.in_default-2.is at (c.in_ok-first.ensures {u = tt}).sum)

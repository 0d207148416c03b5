use Rattle.fixed_form.proofs.HeadNames.{no_program}
use Rattle.fixed_form.proofs.unit_names.program.Goals as goal

pub returns-in_default : goal.returns-in_default
returns-in_default c = no_program (rw c.as_slice.ensures at (c.in_default.ensures {u = tt}))

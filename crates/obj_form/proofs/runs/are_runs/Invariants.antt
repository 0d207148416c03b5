use Rattle.obj_form.proofs.Ordered.{InOrder}
use Rattle.obj_form.proofs.runs.are_runs.Given as goal

abbrev pub invariant-run : goal.invariant-run
invariant-run l = InOrder l.at l.runs

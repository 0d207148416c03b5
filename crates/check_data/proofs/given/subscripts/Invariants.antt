use Rattle.std.proofs.Common.{◌≡◌, drop}
use Rattle.check_data.specs.DataTwice as t
use Rattle.check_data.proofs.Givings.{behind}
use Rattle.check_data.proofs.given.subscripts.Given as goal

abbrev pub invariant-loop-e : goal.invariant-loop-e
invariant-loop-e l = behind l.values (t.subscripts l.constants (drop l.e-index l.e-items)) ≡ t.subscripts l.constants l.e-items

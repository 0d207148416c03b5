use Rattle.std.proofs.Common.{◌≡◌, drop}
use Rattle.check_data.specs.Measures.{with_arrays}
use Rattle.check_data.proofs.measures.add_arrays.Given as goal

abbrev pub invariant-loop-d : goal.invariant-loop-d
invariant-loop-d l = with_arrays l.constants l.known (drop l.d-index l.d-items) ≡ with_arrays l.constants l.initial.known l.d-items

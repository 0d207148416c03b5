use Rattle.std.proofs.Common.{◌≡◌, ◌++◌, drop}
use Rattle.interp_data.specs.Meant.{meant}
use Rattle.interp_lower.specs.Pieces.{bounds_steps}
use Rattle.interp_lower.proofs.arrays.bounds_steps.Given as goal

abbrev pub invariant-loop-bound : goal.invariant-loop-bound
invariant-loop-bound l = l.steps ++ bounds_steps (meant l.names) (drop l.bound-index l.bound-items) ≡ bounds_steps (meant l.names) l.bound-items

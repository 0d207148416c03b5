use Rattle.std.proofs.Common.{◌≡◌, ◌+◌, min, sum_by, take}
use Rattle.f77_tree.specs.Weight.{bound_weight, most}
use Rattle.f77_tree.proofs.weights.add_bounds.Given as goal

abbrev pub invariant-loop-bound : goal.invariant-loop-bound
invariant-loop-bound l = l.sum ≡ min (l.total + sum_by bound_weight (take l.bound-index l.bound-items)) most

use Rattle.std.proofs.Common.{◌≡◌, ◌+◌, min, sum_by, take}
use Rattle.f77_tree.specs.Weight.{constant_weight, most}
use Rattle.f77_tree.proofs.weights.add_constants.Given as goal

abbrev pub invariant-loop-constant : goal.invariant-loop-constant
invariant-loop-constant l = l.sum ≡ min (l.total + sum_by constant_weight (take l.constant-index l.constant-items)) most

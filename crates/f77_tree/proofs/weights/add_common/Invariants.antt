use Rattle.std.proofs.Common.{◌≡◌, ◌+◌, min, sum_by, take}
use Rattle.f77_tree.specs.Weight.{common_weight, most}
use Rattle.f77_tree.proofs.weights.add_common.Given as goal

abbrev pub invariant-loop-block : goal.invariant-loop-block
invariant-loop-block l = l.sum ≡ min (l.total + sum_by common_weight (take l.block-index l.block-items)) most

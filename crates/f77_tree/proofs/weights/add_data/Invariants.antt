use Rattle.std.proofs.Common.{◌≡◌, ◌+◌, min, sum_by, take}
use Rattle.f77_tree.specs.Weight.{data_weight, most}
use Rattle.f77_tree.proofs.weights.add_data.Given as goal

abbrev pub invariant-loop-constant : goal.invariant-loop-constant
invariant-loop-constant l = l.sum ≡ min (l.total + sum_by data_weight (take l.constant-index l.constant-items)) most

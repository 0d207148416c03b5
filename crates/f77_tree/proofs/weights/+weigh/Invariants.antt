use Rattle.std.proofs.Common.{◌≡◌, ◌+◌, min, sum_by, take}
use Rattle.f77_tree.specs.Weight.{weight, most}
use Rattle.f77_tree.proofs.weights.+weigh.Given as goal

abbrev pub invariant-add_list-loop-e : goal.invariant-add_list-loop-e
invariant-add_list-loop-e l = l.sum ≡ min (l.total + sum_by weight (take l.e-index l.e-items)) most

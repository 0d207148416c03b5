use Rattle.std.proofs.Common.{◌≡◌, ◌+◌, min, sum_by, take}
use Rattle.f77_tree.specs.Weight.{declarator_weight, most}
use Rattle.f77_tree.proofs.weights.add_declarators.Given as goal

abbrev pub invariant-loop-declarator : goal.invariant-loop-declarator
invariant-loop-declarator l = l.sum ≡ min (l.total + sum_by declarator_weight (take l.declarator-index l.declarator-items)) most

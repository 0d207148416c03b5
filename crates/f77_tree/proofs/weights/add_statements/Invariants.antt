use Rattle.std.proofs.Common.{◌≡◌, ◌+◌, min, sum_by, take}
use Rattle.f77_tree.specs.Weight.{statement_weight, most}
use Rattle.f77_tree.proofs.weights.add_statements.Given as goal

abbrev pub invariant-loop-statement : goal.invariant-loop-statement
invariant-loop-statement l = l.sum ≡ min (l.total + sum_by statement_weight (take l.statement-index l.statement-items)) most

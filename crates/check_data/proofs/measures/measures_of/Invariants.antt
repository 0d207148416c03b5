use Rattle.std.proofs.Common.{◌≡◌, drop}
use Rattle.check_data.specs.Measures.{measures_from, measures}
use Rattle.check_data.proofs.measures.measures_of.Given as goal

-- what is still to come, under what is defined so far
abbrev pub invariant-loop-statement : goal.invariant-loop-statement
invariant-loop-statement l = measures_from l.defined l.known (drop l.statement-index l.statement-items) ≡ measures l.statement-items

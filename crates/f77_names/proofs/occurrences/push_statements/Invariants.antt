use Rattle.std.proofs.Common.{◌≡◌, ◌++◌, drop, flat_map}
use Rattle.f77_names.specs.Occurrences.{in_statement}
use Rattle.f77_names.proofs.occurrences.push_statements.Given as goal

abbrev pub invariant-loop-statement : goal.invariant-loop-statement
invariant-loop-statement l = l.found ++ flat_map in_statement (drop l.statement-index l.statement-items) ≡ l.initial.found ++ flat_map in_statement l.statement-items

use Rattle.std.proofs.Common.{◌≡◌, ◌++◌, drop, flat_map}
use Rattle.prog_texts.specs.Mentions.{in_statement}
use Rattle.prog_texts.proofs.texts.push_statements.Given as goal

abbrev pub invariant-loop-statement : goal.invariant-loop-statement
invariant-loop-statement l = l.found ++ flat_map (in_statement l.facts) (drop l.statement-index l.statement-items) ≡ l.initial.found ++ flat_map (in_statement l.facts) l.statement-items

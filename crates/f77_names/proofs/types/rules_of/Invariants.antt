use Rattle.std.proofs.Common.{◌≡◌, ◌++◌, drop, flat_map}
use Rattle.f77_names.specs.Types.{statement_rules, rules}
use Rattle.f77_names.proofs.types.rules_of.Given as goal

abbrev pub invariant-loop-statement : goal.invariant-loop-statement
invariant-loop-statement l = l.found ++ flat_map statement_rules (drop l.statement-index l.statement-items) ≡ rules l.statement-items

use Rattle.std.proofs.Common.{◌≡◌, ◌++◌, drop, map}
use Rattle.check_types.specs.TypeFaults.{statement_breaks}
use Rattle.check_types.proofs.type_faults.breaking.Given as goal

abbrev pub invariant-loop-statement : goal.invariant-loop-statement
invariant-loop-statement l = l.flags.items ++ map (statement_breaks l.facts l.rule) (drop l.statement-index l.statement-items) ≡ map (statement_breaks l.facts l.rule) l.statement-items

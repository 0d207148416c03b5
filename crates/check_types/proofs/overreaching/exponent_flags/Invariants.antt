use Rattle.std.proofs.Common.{◌≡◌, [], ◌++◌, drop}
use Rattle.check_types.specs.Overreaching.{overreaches_from}
use Rattle.check_types.proofs.overreaching.exponent_flags.Given as goal

abbrev pub invariant-loop-statement : goal.invariant-loop-statement
invariant-loop-statement l = l.flags.items ++ overreaches_from l.facts l.constants (drop l.statement-index l.statement-items) ≡ overreaches_from l.facts [] l.statement-items

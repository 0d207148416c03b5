use Rattle.std.proofs.Common.{◌≡◌, map}
use Rattle.std.specs.List.{range_with_len}
use Rattle.check_names.specs.Dummies.{displaces_at}
use Rattle.check_names.proofs.dummies.displaced_flags.Given as goal

abbrev pub invariant-loop-statement : goal.invariant-loop-statement
invariant-loop-statement l = l.flags ≡ map (displaces_at l.a l.unit) (range_with_len 0 l.statement-index)

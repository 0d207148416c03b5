use Rattle.std.proofs.Common.{◌≡◌, drop}
use Rattle.std.specs.List.{list_any}
use Rattle.check_types.specs.Scalars.{is_misplaced}
use Rattle.check_types.proofs.scalars.+scalars.Given as goal

abbrev pub invariant-are_misplaced-loop-e : goal.invariant-are_misplaced-loop-e
invariant-are_misplaced-loop-e l = list_any (is_misplaced l.facts l.place) (drop l.e-index l.e-items) ≡ list_any (is_misplaced l.facts l.place) l.e-items

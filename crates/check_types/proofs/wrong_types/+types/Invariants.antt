use Rattle.std.proofs.Common.{◌≡◌, drop}
use Rattle.std.specs.List.{list_any}
use Rattle.check_types.specs.WrongTypes.{is_mistyped}
use Rattle.check_types.proofs.wrong_types.+types.Given as goal

-- what is found in those that are still to come is found in all
abbrev pub invariant-are_mistyped-loop-e : goal.invariant-are_mistyped-loop-e
invariant-are_mistyped-loop-e l = list_any (is_mistyped l.facts l.place) (drop l.e-index l.e-items) ≡ list_any (is_mistyped l.facts l.place) l.e-items

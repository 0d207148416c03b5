use Rattle.std.proofs.Common.{◌≡◌, drop}
use Rattle.std.specs.List.{list_any}
use Rattle.check_types.specs.Subscripts.{is_miscounted}
use Rattle.check_types.proofs.subscripts.+subscripts.Given as goal

abbrev pub invariant-are_miscounted-loop-e : goal.invariant-are_miscounted-loop-e
invariant-are_miscounted-loop-e l = list_any (is_miscounted l.facts) (drop l.e-index l.e-items) ≡ list_any (is_miscounted l.facts) l.e-items

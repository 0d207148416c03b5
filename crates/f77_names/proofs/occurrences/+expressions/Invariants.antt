use Rattle.std.proofs.Common.{◌≡◌, ◌++◌, drop, flat_map}
use Rattle.f77_names.specs.Occurrences.{in_expr}
use Rattle.f77_names.proofs.occurrences.+expressions.Given as goal

abbrev pub invariant-push_list-loop-e : goal.invariant-push_list-loop-e
invariant-push_list-loop-e l = l.found ++ flat_map in_expr (drop l.e-index l.e-items) ≡ l.initial.found ++ flat_map in_expr l.e-items

use Rattle.std.proofs.Common.{◌≡◌, ◌++◌, drop, flat_map}
use Rattle.prog_texts.specs.Mentions.{in_expr}
use Rattle.prog_texts.proofs.texts.+expressions.Given as goal

abbrev pub invariant-push_list-loop-e : goal.invariant-push_list-loop-e
invariant-push_list-loop-e l = l.found ++ flat_map (in_expr l.facts l.line) (drop l.e-index l.e-items) ≡ l.initial.found ++ flat_map (in_expr l.facts l.line) l.e-items

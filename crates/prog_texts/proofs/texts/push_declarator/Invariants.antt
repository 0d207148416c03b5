use Rattle.std.proofs.Common.{◌≡◌, ◌++◌, drop, flat_map}
use Rattle.prog_texts.specs.Mentions.{in_bound}
use Rattle.prog_texts.proofs.texts.push_declarator.Given as goal

abbrev pub invariant-loop-bound : goal.invariant-loop-bound
invariant-loop-bound l = l.found ++ flat_map (in_bound l.facts l.line) (drop l.bound-index l.bound-items) ≡ l.initial.found ++ flat_map (in_bound l.facts l.line) l.bound-items

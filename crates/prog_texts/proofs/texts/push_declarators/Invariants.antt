use Rattle.std.proofs.Common.{◌≡◌, ◌++◌, drop, flat_map}
use Rattle.prog_texts.specs.Mentions.{in_declarator}
use Rattle.prog_texts.proofs.texts.push_declarators.Given as goal

abbrev pub invariant-loop-declarator : goal.invariant-loop-declarator
invariant-loop-declarator l = l.found ++ flat_map (in_declarator l.facts l.line) (drop l.declarator-index l.declarator-items) ≡ l.initial.found ++ flat_map (in_declarator l.facts l.line) l.declarator-items

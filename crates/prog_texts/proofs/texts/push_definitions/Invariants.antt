use Rattle.std.proofs.Common.{◌≡◌, ◌++◌, drop, flat_map}
use Rattle.prog_texts.specs.Mentions.{in_definition}
use Rattle.prog_texts.proofs.texts.push_definitions.Given as goal

abbrev pub invariant-loop-definition : goal.invariant-loop-definition
invariant-loop-definition l = l.found ++ flat_map (in_definition l.facts l.line) (drop l.definition-index l.definition-items) ≡ l.initial.found ++ flat_map (in_definition l.facts l.line) l.definition-items

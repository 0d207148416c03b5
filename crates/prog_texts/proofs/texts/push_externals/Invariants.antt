use Rattle.std.proofs.Common.{◌≡◌, ◌++◌, drop, flat_map}
use Rattle.prog_texts.specs.Mentions.{in_external}
use Rattle.prog_texts.proofs.texts.push_externals.Given as goal

abbrev pub invariant-loop-name : goal.invariant-loop-name
invariant-loop-name l = l.found ++ flat_map (in_external l.facts l.line) (drop l.name-index l.name-items) ≡ l.initial.found ++ flat_map (in_external l.facts l.line) l.name-items

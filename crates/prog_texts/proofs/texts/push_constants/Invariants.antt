use Rattle.std.proofs.Common.{◌≡◌, ◌++◌, drop, flat_map}
use Rattle.prog_texts.specs.Mentions.{in_constant}
use Rattle.prog_texts.proofs.texts.push_constants.Given as goal

abbrev pub invariant-loop-constant : goal.invariant-loop-constant
invariant-loop-constant l = l.found ++ flat_map (in_constant l.facts l.line) (drop l.constant-index l.constant-items) ≡ l.initial.found ++ flat_map (in_constant l.facts l.line) l.constant-items

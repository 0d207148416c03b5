use Rattle.std.proofs.Common.{◌≡◌, ◌++◌, drop, flat_map}
use Rattle.prog_texts.specs.Mentions.{in_block}
use Rattle.prog_texts.proofs.texts.push_blocks.Given as goal

abbrev pub invariant-loop-block : goal.invariant-loop-block
invariant-loop-block l = l.found ++ flat_map (in_block l.facts l.line) (drop l.block-index l.block-items) ≡ l.initial.found ++ flat_map (in_block l.facts l.line) l.block-items

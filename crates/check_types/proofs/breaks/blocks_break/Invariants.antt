use Rattle.std.proofs.Common.{◌≡◌, drop}
use Rattle.std.specs.List.{list_any}
use Rattle.check_types.specs.Breaks.{block_breaks}
use Rattle.check_types.proofs.breaks.blocks_break.Given as goal

abbrev pub invariant-loop-block : goal.invariant-loop-block
invariant-loop-block l = list_any (block_breaks l.facts l.constants l.rule) (drop l.block-index l.block-items) ≡ list_any (block_breaks l.facts l.constants l.rule) l.block-items

use Rattle.check_jumps.proofs.Spanning.{span_of_block, span_of_range}
use Rattle.check_jumps.proofs.nests.span_end.Goals as goal

pub returns-then-is_block : goal.returns-then-is_block
returns-then-is_block c = rw c.end_if.ensures (span_of_block _ _ c.if-is_block.ensures)

pub returns : goal.returns
returns c = span_of_range _ _ _ c.if-is_block.ensures c.requires.within c.range_end.ensures

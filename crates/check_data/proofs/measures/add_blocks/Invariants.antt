use Rattle.std.proofs.Common.{◌≡◌, drop, fold}
use Rattle.check_data.specs.Measures.{with_block}
use Rattle.check_data.proofs.measures.add_blocks.Given as goal

abbrev pub invariant-loop-block : goal.invariant-loop-block
invariant-loop-block l = fold (with_block l.constants) l.known (drop l.block-index l.block-items) ≡ fold (with_block l.constants) l.initial.known l.block-items

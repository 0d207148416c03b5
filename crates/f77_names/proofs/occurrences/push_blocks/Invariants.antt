use Rattle.std.proofs.Common.{◌≡◌, ◌++◌, drop, flat_map}
use Rattle.f77_names.specs.Occurrences.{in_block}
use Rattle.f77_names.proofs.occurrences.push_blocks.Given as goal

abbrev pub invariant-loop-block : goal.invariant-loop-block
invariant-loop-block l = l.found ++ flat_map in_block (drop l.block-index l.block-items) ≡ l.initial.found ++ flat_map in_block l.block-items

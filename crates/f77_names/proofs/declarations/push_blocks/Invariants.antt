use Rattle.std.proofs.Common.{◌≡◌, ◌++◌, drop, flat_map}
use Rattle.f77_names.specs.Declarations.{in_block}
use Rattle.f77_names.proofs.declarations.push_blocks.Given as goal

abbrev pub invariant-loop-block : goal.invariant-loop-block
invariant-loop-block l = l.found ++ flat_map (in_block l.constants) (drop l.block-index l.block-items) ≡ l.initial.found ++ flat_map (in_block l.constants) l.block-items

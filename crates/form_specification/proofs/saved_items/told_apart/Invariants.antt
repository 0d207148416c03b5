use Rattle.std.proofs.Common.{◌≡◌, take, flat_map}
use Rattle.form_specification.specs.Specifications.{name_in, block_in}
use Rattle.form_specification.proofs.saved_items.told_apart.Given as goal

abbrev pub invariant-loop-saved : goal.invariant-loop-saved
invariant-loop-saved l = record {
  names : l.names ≡ flat_map name_in (take l.saved-index l.saved-items);
  blocks : l.blocks ≡ flat_map block_in (take l.saved-index l.saved-items);
}

use Rattle.std.proofs.Common.{◌≡◌, drop, fold, flat_map}
use Rattle.thin_code.specs.Layout.{item_names, with_name}
use Rattle.thin_code.proofs.names.add_items.Given as goal

-- the names that are still to come make of those so far what is wanted
abbrev pub invariant-loop-item : goal.invariant-loop-item
invariant-loop-item l = fold with_name l.names.keys (flat_map item_names (drop l.item-index l.items)) ≡ fold with_name l.initial.names.keys (flat_map item_names l.items)

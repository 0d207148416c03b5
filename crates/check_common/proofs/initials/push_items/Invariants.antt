use Rattle.std.proofs.Common.{◌≡◌, ◌++◌, drop, flat_map}
use Rattle.check_common.specs.Initials.{item_initials}
use Rattle.check_common.proofs.initials.push_items.Given as goal

abbrev pub invariant-loop-item : goal.invariant-loop-item
invariant-loop-item l =
    l.found.items ++ flat_map (item_initials l.storage l.unit l.line l.named) (drop l.item-index l.item-items)
    ≡ l.initial.found.items ++ flat_map (item_initials l.storage l.unit l.line l.named) l.item-items

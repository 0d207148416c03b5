use Rattle.std.proofs.Common.{◌≡◌, ◌++◌, drop, flat_map}
use Rattle.check_names.specs.Givings.{of_item}
use Rattle.check_names.proofs.givings.push_items.Given as goal

abbrev pub invariant-loop-item : goal.invariant-loop-item
invariant-loop-item l = l.found ++ flat_map of_item (drop l.item-index l.item-items) ≡ l.initial.found ++ flat_map of_item l.item-items

use Rattle.std.proofs.Common.{◌≡◌, ◌++◌, drop}
use Rattle.check_data.specs.DataTwice.{items_give}
use Rattle.check_data.proofs.given.push_items.Given as goal

abbrev pub invariant-loop-item : goal.invariant-loop-item
invariant-loop-item l = l.found ++ items_give l.constants (drop l.item-index l.item-items) ≡ l.initial.found ++ items_give l.constants l.item-items

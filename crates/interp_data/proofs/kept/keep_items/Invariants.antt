use Rattle.std.proofs.Common.{◌≡◌, drop, fold}
use Rattle.f77_values.specs.Tables.{with_name}
use Rattle.interp_data.specs.Cells.{in_items}
use Rattle.interp_data.proofs.kept.keep_items.Given as goal

abbrev pub invariant-loop-item : goal.invariant-loop-item
invariant-loop-item l = fold with_name l.found (in_items (drop l.item-index l.item-items)) ≡ fold with_name l.initial.found (in_items l.item-items)

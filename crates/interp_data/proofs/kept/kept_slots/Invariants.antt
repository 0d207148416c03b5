use Rattle.std.proofs.Common.{◌≡◌, ◌++◌, drop, map, ◌||◌}
use Rattle.f77_values.specs.Tables.{is_among}
use Rattle.interp_data.specs.Cells.{kept_slots}
use Rattle.interp_data.proofs.kept.kept_slots.Given as goal

abbrev pub invariant-loop-slot : goal.invariant-loop-slot
invariant-loop-slot l = l.found ++ kept_slots (λ name. l.all || is_among l.names name) (drop l.slot-index l.slot-items) ≡ kept_slots (λ name. l.all || is_among l.names name) l.slot-items

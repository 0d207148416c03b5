use Rattle.std.proofs.Common.{◌≡◌, drop, fold, take}
use Rattle.f77_values.specs.Tables.{with_pair}
use Rattle.f77_store.specs.Areas.{size_of, placed, places, AreTotals}
use Rattle.f77_store.proofs.areas.lay_out.Given as goal

-- the places that are still to come make of those so far what is wanted, and the totals are those of the members so far
abbrev pub invariant-loop-member : goal.invariant-loop-member
invariant-loop-member l = record {
  places : fold with_pair l.places (placed (size_of l.shapes) (take l.member-index l.member-items) (drop l.member-index l.member-items)) ≡ places (size_of l.shapes) l.member-items;
  totals : AreTotals (size_of l.shapes) (take l.member-index l.member-items) l.totals;
}

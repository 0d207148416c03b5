use Rattle.std.proofs.Common.{◌≡◌, ℕ, ◌*◌, ◌≤◌, List, drop, fold, take}
use Rattle.f77_values.specs.Tables.{with_pair}
use Rattle.f77_store.specs.Areas.{size_of, so_far}
use Rattle.check_common.specs.Places.{started, starts, AreExact}
use Rattle.check_common.proofs.places.starts_of.Given as goal

-- The places that are still to come make of those so far what is wanted, and the totals are those of the members so far.
abbrev pub invariant-loop-member : goal.invariant-loop-member
invariant-loop-member l = record {
  starts : fold with_pair l.starts (started (size_of l.shapes) (take l.member-index l.member-items) (drop l.member-index l.member-items)) ≡ starts (size_of l.shapes) l.member-items;
  totals : AreExact (size_of l.shapes) (take l.member-index l.member-items) l.totals;
  small : (q : List ℕ) → so_far l.totals q ≤ l.member-index * 4294967295;
}

use Rattle.std.proofs.Common.{◌≡◌, ℕ, ◌≤◌, ◌&&◌, ◌||◌, nat_le, nat_lt, length}
use Rattle.interp_cells.specs.Rows.{is_marked}
use Rattle.f77_meaning.proofs.marks.mark.Given as goal

abbrev pub invariant-loop-k : goal.invariant-loop-k
invariant-loop-k l = record {
  marked : (j : ℕ) → is_marked l.marks.items j ≡ ((nat_le l.from j && nat_lt j l.k) || is_marked l.initial.marks.items j);
  room : l.end ≤ length l.marks.items;
}

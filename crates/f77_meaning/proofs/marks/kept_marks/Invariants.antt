use Rattle.std.proofs.Common.{◌≡◌, ℕ, ◌||◌, drop, map}
use Rattle.interp_cells.specs.Rows.{is_marked}
use Rattle.f77_semantics.specs.Units.{is_kept}
use Rattle.f77_meaning.proofs.marks.kept_marks.Given as goal

abbrev pub invariant-loop-cells : goal.invariant-loop-cells
invariant-loop-cells l = (k : ℕ) → (is_marked l.marks.items k || is_kept (drop l.cells-index l.cells-items) k) ≡ is_kept l.cells-items k

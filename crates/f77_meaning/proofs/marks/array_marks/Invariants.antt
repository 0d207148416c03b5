use Rattle.std.proofs.Common.{◌≡◌, ℕ, ◌||◌, drop, map}
use Rattle.interp_cells.specs.Rows.{is_marked}
use Rattle.interp_lower.specs.Routines.{dummy_of}
use Rattle.f77_meaning.specs.Marks.{is_dimensioned}
use Rattle.f77_meaning.proofs.marks.array_marks.Given as goal

abbrev pub invariant-loop-array : goal.invariant-loop-array
invariant-loop-array l = (j : ℕ) → (is_marked l.marks.items j || is_dimensioned (map dummy_of (drop l.array-index l.array-items)) j) ≡ is_dimensioned (map dummy_of l.array-items) j

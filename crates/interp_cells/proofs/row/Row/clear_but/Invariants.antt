use Rattle.std.proofs.Common.{◌≡◌, ℕ, ◌&&◌, not, None, cond, nat_lt, vec_len}
use Rattle.interp_cells.specs.Rows.{cell, is_marked}
use Rattle.interp_cells.proofs.row.Row.clear_but.Given as goal

abbrev pub invariant-loop-at : goal.invariant-loop-at
invariant-loop-at l = (vec_len l.self-inside.cells ≡ vec_len l.initial.self-inside.cells) × ((k : ℕ) → cell l.self-inside.cells.items k ≡ cond (nat_lt k l.at && not (is_marked l.marks k)) None (cell l.initial.self-inside.cells.items k))

-- Cells one after another, of which those behind the end were never stored to.
use Rattle.std.specs.Prelude.{ℕ, List, Option, None, Bool, false, slice_index_or}
use Rattle.f77_tree.specs.declared.unit.Value.{Value}

-- the value of a cell, if it has one
abbrev pub cell : List (Option Value) → ℕ → Option Value
cell row k = slice_index_or row k None

-- whether a cell is one of those marked
abbrev pub is_marked : List Bool → ℕ → Bool
is_marked marks k = slice_index_or marks k false

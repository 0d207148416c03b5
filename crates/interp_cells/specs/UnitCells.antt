-- The cells of COMMON blocks and of units by their names: to those of a name that isn't there nothing was stored.
use Rattle.std.specs.Prelude.{ℕ, List, Option, Some, None, Bool, ◌&&◌, nat_eq}
use Rattle.indexmap.specs.IndexMap.{get}
use Rattle.f77_tree.specs.declared.unit.Value.{Value}
use Rattle.interp_cells.specs.declared.unit_cells.Seat.{Seat}
use Rattle.interp_cells.specs.declared.unit_cells.UnitCells.{UnitCells}
use Rattle.interp_cells.specs.Rows.{cell}

abbrev pub same_seat : Seat → Seat → Bool
same_seat a b = nat_eq a.site b.site && nat_eq a.position b.position

-- a cell of a COMMON block
abbrev pub block_cell : Option (List (Option Value)) → ℕ → Option Value
block_cell None k = None
block_cell (Some row) k = cell row k

-- a cell of a unit's local area
abbrev pub local_cell : Option UnitCells → ℕ → Option Value
local_cell None k = None
local_cell (Some h) k = cell h.row k

-- the cell of an actual argument without a location
abbrev pub fresh_cell : Option UnitCells → Seat → Option Value
fresh_cell None s = None
fresh_cell (Some h) s = get same_seat h.seats s

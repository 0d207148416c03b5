-- The finite map of locations to values that storage holds.
use Rattle.std.specs.Prelude.{ℕ, Option, None, cond, nat_eq, option_map}
use Rattle.indexmap.specs.IndexMap.{get}
use Rattle.run_model.specs.Storage as run
use Rattle.f77_tree.specs.declared.unit.Value.{Value}
use Rattle.f77_values.specs.Tables.{name_eq}
use Rattle.f77_semantics.specs.Values.{stored}
use Rattle.interp_cells.specs.declared.storage.Storage.{Storage}
use Rattle.interp_cells.specs.UnitCells.{block_cell, local_cell, fresh_cell}

-- An actual argument without a location has one cell.
abbrev pub found : Storage → run.Area → ℕ → Option Value
found s (run.Block name) k = block_cell (get name_eq s.commons name) k
found s (run.Local unit) k = local_cell (get name_eq s.units unit) k
found s (run.Fresh unit site position) k = cond (nat_eq k 0) (fresh_cell (get name_eq s.units unit) (record { site = site; position = position })) None

abbrev pub cells_of : Storage → run.Cells
cells_of s l = option_map stored (found s l.area l.offset)

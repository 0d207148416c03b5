-- The locations that spots stand for.
use Rattle.interp_cells.specs.declared.spot.Area.{Area}
use Rattle.interp_cells.specs.declared.spot.Area.TheVariants.{Block, Local, Fresh}
use Rattle.interp_cells.specs.declared.spot.Spot.{Spot}
use Rattle.run_model.specs.Storage as storage

abbrev pub area_of : Area → storage.Area
area_of (Block name) = storage.Block name.now
area_of (Local unit) = storage.Local unit.now
area_of (Fresh unit site position) = storage.Fresh unit.now site position

abbrev pub loc_of : Spot → storage.Loc
loc_of s = record { area = area_of s.area; offset = s.offset }

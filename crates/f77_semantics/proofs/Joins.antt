-- A program's run is a run of its unit with the callees' runs in the handler's place.
use Rattle.std.proofs.Common.{◌≡◌, ℕ, suc, List, refl}
use Rattle.run_model.specs.Storage.{Interval}
use Rattle.run_model.specs.Acts.{World}
use Rattle.f77_values.specs.Tables.{Name}
use Rattle.f77_semantics.specs.Units.{Program, run_unit, at_sites, meaning}

pub meaning_joins : (units : Program) (d : ℕ) (q : Name) (ds : List Interval) (w : World) → meaning units (suc d) q ds w ≡ run_unit (at_sites (units q) (meaning units d)) (units q) ds w
meaning_joins units d q ds w = refl

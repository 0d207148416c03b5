use Rattle.area_laws.proofs.Programs.{runs_stay}
use Rattle.area_laws.proofs.Defined.{values_lie}
use Rattle.area_laws.proofs.Finite.{areas_finite}
use Rattle.area_laws.proofs.areas_law.Goals as goal

pub returns : goal.returns
returns c = record { stays = runs_stay; defined = values_lie; finite = areas_finite }

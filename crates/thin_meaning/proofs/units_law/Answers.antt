use Rattle.thin_meaning.proofs.Whole.{units_run_alike}
use Rattle.thin_meaning.proofs.units_law.Goals as goal

pub returns : goal.returns
returns c = record { alike = units_run_alike }

use Rattle.unit_serves.proofs.Served.{run_is_behaviour, units_depend}
use Rattle.unit_serves.proofs.unit_law.Goals as goal

pub returns : goal.returns
returns c = record { behaves = run_is_behaviour; depends = units_depend }

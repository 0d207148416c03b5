use Rattle.body_serves.proofs.Served.{run_is_behaviour, bodies_depend}
use Rattle.body_serves.proofs.body_law.Goals as goal

pub returns : goal.returns
returns c = record { behaves = run_is_behaviour; depends = bodies_depend }

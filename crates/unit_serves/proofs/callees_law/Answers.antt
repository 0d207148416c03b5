use Rattle.unit_serves.proofs.Served.{all_together, serve_programs}
use Rattle.unit_serves.proofs.callees_law.Goals as goal

pub returns : goal.returns
returns c = record { together = all_together; programs = serve_programs }

use Rattle.run_laws.proofs.Endings.{ends_so, has_cause}
use Rattle.run_laws.proofs.ends_law.Goals as goal

pub returns : goal.returns
returns c = record { statuses = ends_so; causes = has_cause }

use Rattle.fresh_laws.proofs.Runs.{are_fresh, fresh_within}
use Rattle.fresh_laws.proofs.fresh_law.Goals as goal

pub returns : goal.returns
returns c = record { activation = are_fresh; within = fresh_within }

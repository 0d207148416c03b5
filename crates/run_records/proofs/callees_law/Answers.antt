use Rattle.run_records.proofs.Composed.{callees_may_change}
use Rattle.run_records.proofs.callees_law.Goals as goal

pub returns : goal.returns
returns c = callees_may_change

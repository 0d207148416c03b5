use Rattle.run_alike.proofs.Runs.{acts_run_alike, turns_run_alike, entries_run_alike}
use Rattle.run_alike.proofs.alike_law.Goals as goal

pub returns : goal.returns
returns c = record { acts = acts_run_alike; turns = turns_run_alike; entries = entries_run_alike }

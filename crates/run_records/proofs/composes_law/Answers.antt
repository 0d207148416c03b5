use Rattle.run_records.proofs.Composed.{composes, serves_itself}
use Rattle.run_records.proofs.composes_law.Goals as goal

pub returns : goal.returns
returns c = record { composes = composes; itself = serves_itself }

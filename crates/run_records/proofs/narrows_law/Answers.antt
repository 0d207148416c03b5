use Rattle.run_records.proofs.Narrowed.{narrows}
use Rattle.run_records.proofs.narrows_law.Goals as goal

pub returns : goal.returns
returns c = narrows

use Rattle.run_records.proofs.Rowed.{gives_rows}
use Rattle.run_records.proofs.rows_law.Goals as goal

pub returns : goal.returns
returns c = gives_rows

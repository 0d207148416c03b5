use Rattle.run_laws.proofs.Inputs.{source_alike}
use Rattle.run_laws.proofs.input_law.Goals as goal

pub returns : goal.returns
returns c = record { alike = source_alike }

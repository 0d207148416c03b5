use Rattle.run_inputs.proofs.Decided.{integers, inputs}
use Rattle.run_inputs.proofs.inputs_law.Goals as goal

pub returns : goal.returns
returns c = record { integers = integers; inputs = inputs }

use Rattle.rv_machine.proofs.Steps.{runs_join}
use Rattle.rv_machine.proofs.laws.run_law.Goals as goal

pub returns : goal.returns
returns c = runs_join

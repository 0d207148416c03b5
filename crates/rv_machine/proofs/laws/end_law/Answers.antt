use Rattle.rv_machine.proofs.Steps.{end_stays}
use Rattle.rv_machine.proofs.laws.end_law.Goals as goal

pub returns : goal.returns
returns c = end_stays

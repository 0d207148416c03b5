use Rattle.rv_code.proofs.Constants.{pair_value}
use Rattle.rv_code.proofs.Writes.{code_stays, read_same, read_other}
use Rattle.rv_code.proofs.memory_law.Goals as goal

pub returns-clause-reaches : goal.returns-clause-reaches
returns-clause-reaches c = pair_value

pub returns-clause-code : goal.returns-clause-code
returns-clause-code c = code_stays

pub returns-clause-same : goal.returns-clause-same
returns-clause-same c = read_same

pub returns-clause-other : goal.returns-clause-other
returns-clause-other c = read_other

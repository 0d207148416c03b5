use Rattle.rv_code.proofs.Constants.{constant_goes}
use Rattle.rv_code.proofs.Pieces.{operation_goes}
use Rattle.rv_code.proofs.value_law.Goals as goal

pub returns-clause-constant : goal.returns-clause-constant
returns-clause-constant c = constant_goes

pub returns-clause-operation : goal.returns-clause-operation
returns-clause-operation c = operation_goes

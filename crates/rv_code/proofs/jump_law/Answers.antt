use Rattle.rv_code.proofs.Pieces.{jump_goes}
use Rattle.rv_code.proofs.jump_law.Goals as goal

pub returns : goal.returns
returns c = jump_goes

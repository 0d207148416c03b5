use Rattle.interp_code.proofs.Statements.{performs}
use Rattle.interp_code.proofs.statements_law.Goals as goal

pub returns : goal.returns
returns c = performs

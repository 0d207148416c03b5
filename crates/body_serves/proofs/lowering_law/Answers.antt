use Rattle.body_serves.proofs.Served.{following_serves}
use Rattle.body_serves.proofs.lowering_law.Goals as goal

pub returns : goal.returns
returns c = following_serves

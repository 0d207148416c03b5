use Rattle.f77_semantics.proofs.Goes.{goes}
use Rattle.f77_semantics.proofs.flow_law.Goals as goal

pub returns : goal.returns
returns c = record { follows = goes }

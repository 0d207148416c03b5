use Rattle.run_laws.proofs.Walks.{follows}
use Rattle.run_laws.proofs.graph_law.Goals as goal

pub returns : goal.returns
returns c = record { follows = follows }

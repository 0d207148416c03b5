use Rattle.run_model.proofs.Order.{play-and_then}
use Rattle.run_model.proofs.order_law.Goals as goal

pub returns : goal.returns
returns c = play-and_then

use Rattle.run_calls.proofs.Order.{calls-and_then}
use Rattle.run_calls.proofs.order_law.Goals as goal

pub returns : goal.returns
returns c = calls-and_then

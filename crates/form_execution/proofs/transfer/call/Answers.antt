use Rattle.form_execution.proofs.Transfers.{found_call, never_call}
use Rattle.form_execution.proofs.transfer.call.Goals as goal

pub returns-in_default : goal.returns-in_default
returns-in_default c = never_call (rw c.in_default.is at (c.in_ok-x.ensures {u = tt}))

pub returns : goal.returns
returns c = found_call c.call_of.result (rw c.in-Some.is at (c.in_ok-x.ensures {u = tt})) c.call_of.ensures

use Rattle.form_execution.proofs.Transfers.{go_plain, go_computed}
use Rattle.form_execution.proofs.transfer.go_to.Goals as goal

pub returns-in-Some : goal.returns-in-Some
returns-in-Some c = go_plain (c.in-Some.ensures {u = tt})

pub returns : goal.returns
returns c = go_computed c.args.tokens.now c.computed_go_to.result (c.in_default.ensures {u = tt}) c.computed_go_to.ensures

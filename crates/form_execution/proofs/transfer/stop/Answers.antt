use Rattle.std.proofs.Common.{sym, ◌∙◌}
use Rattle.form_execution.proofs.Transfers.{sole_stop, never_stop}
use Rattle.form_execution.proofs.transfer.stop.Goals as goal

pub returns-then-is_stop : goal.returns-then-is_stop
returns-then-is_stop c = sole_stop (sym c.is_stop.ensures ∙ c.if-is_stop.true)

pub returns-else-is_stop : goal.returns-else-is_stop
returns-else-is_stop c = never_stop (sym c.is_stop.ensures ∙ c.if-is_stop.false)

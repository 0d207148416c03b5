use Rattle.form_execution.proofs.Transfers.{sole_computed, never_labels, never_index}
use Rattle.form_execution.proofs.transfer.computed_go_to.Goals as goal

pub returns-in_default : goal.returns-in_default
returns-in_default c = never_labels (rw c.in_default.is at (c.in_ok-labels.ensures {u = tt}).list)

pub returns-in_default-2 : goal.returns-in_default-2
returns-in_default-2 c = never_index (rw c.in-Some.is at (c.in_ok-labels.ensures {u = tt}).list) (rw (c.in_default-2.is, c.behind_comma.ensures.behind) at (c.in_ok-index.ensures {u = tt}))

pub returns : goal.returns
returns c = sole_computed (rw c.in-Some.is at (c.in_ok-labels.ensures {u = tt}).list) (rw (c.in-Some-2.is, c.behind_comma.ensures.behind) at (c.in_ok-index.ensures {u = tt}))

use Rattle.form_parts.proofs.NextToken.{nil_of, emptied, filled}
use Rattle.form_execution.proofs.Transfers.{sole_plain, never_plain, never_plain_more}
use Rattle.form_execution.proofs.transfer.plain_go_to.Goals as goal

pub returns-in_default : goal.returns-in_default
returns-in_default c = never_plain (c.in_default.ensures {u = tt}).label

pub returns-then-is_empty : goal.returns-then-is_empty
returns-then-is_empty c = sole_plain (c.in-Some.ensures {u = tt}).label (nil_of c.in-Some.rest.now (emptied c.in-Some.rest.now c.is_empty.ensures c.if-is_empty.true))

pub returns-else-is_empty : goal.returns-else-is_empty
returns-else-is_empty c = never_plain_more (c.in-Some.ensures {u = tt}).label (filled c.in-Some.rest.now c.is_empty.ensures c.if-is_empty.false)

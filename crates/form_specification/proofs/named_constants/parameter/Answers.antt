use Rattle.form_specification.proofs.Constants.{sole_front, never_front, more_than_front}
use Rattle.form_parts.proofs.NextToken.{filled, emptied}
use Rattle.form_specification.proofs.named_constants.parameter.Goals as goal

pub returns-in_default : goal.returns-in_default
returns-in_default c = never_front (rw c.in_default.is at (c.in_ok-all.ensures {u = tt}).list)

pub returns-then-is_empty : goal.returns-then-is_empty
returns-then-is_empty c = sole_front (rw c.in-Some.is at (c.in_ok-all.ensures {u = tt}).list) (emptied c.in-Some.rest.now c.is_empty.ensures c.if-is_empty.true)

pub returns-else-is_empty : goal.returns-else-is_empty
returns-else-is_empty c = more_than_front (rw c.in-Some.is at (c.in_ok-all.ensures {u = tt}).list) (filled c.in-Some.rest.now c.is_empty.ensures c.if-is_empty.false)

use Rattle.form_specification.proofs.Bounds.{seven, no_bounds, too_many}
use Rattle.form_specification.proofs.dimensions.bounds.Goals as goal

pub returns-in_default-clause-bounds : goal.returns-in_default-clause-bounds
returns-in_default-clause-bounds c = no_bounds (rw c.in_default.is at (c.in_ok-all.ensures {u = tt}).list)

pub returns-then-len-le7-clause-bounds : goal.returns-then-len-le7-clause-bounds
returns-then-len-le7-clause-bounds c = seven (rw c.in-Some.is at (c.in_ok-all.ensures {u = tt}).list) (rw c.len.ensures at c.if-len-le7.true)

pub returns-clause-bounds : goal.returns-clause-bounds
returns-clause-bounds c = too_many (rw c.in-Some.is at (c.in_ok-all.ensures {u = tt}).list) (rw c.len.ensures at c.if-len-le7.false)

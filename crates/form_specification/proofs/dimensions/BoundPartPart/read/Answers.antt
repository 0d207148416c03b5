use Rattle.form_specification.proofs.Bounds.{no_bound, bound_upper, no_low, no_high, bound_both}
use Rattle.form_specification.proofs.dimensions.BoundPartPart.read.Goals as goal

pub returns-in_default-clause-part : goal.returns-in_default-clause-part
returns-in_default-clause-part c = no_bound (rw c.in_default.is at (c.in_ok-first.ensures {u = tt}).upper)

pub returns-in_default-eat-clause-part : goal.returns-in_default-eat-clause-part
returns-in_default-eat-clause-part c = bound_upper (rw c.in-Some.is at (c.in_ok-first.ensures {u = tt}).upper) (c.in_default-eat.ensures {u = tt}).next

pub returns-in_default-first-clause-part : goal.returns-in_default-first-clause-part
returns-in_default-first-clause-part c = no_low (rw c.in_default-first.is at (rw c.in-Some.is at (c.in_ok-first.ensures {u = tt}).upper)) (c.in-Some-eat.ensures {u = tt}).next

pub returns-in_default-2-clause-part : goal.returns-in_default-2-clause-part
returns-in_default-2-clause-part c = no_high (rw c.in-Some.is at (c.in_ok-first.ensures {u = tt}).upper) (c.in-Some-eat.ensures {u = tt}).next (rw c.in_default-2.is at (c.in_ok-high.ensures {u = tt}).upper)

pub returns-clause-part : goal.returns-clause-part
returns-clause-part c = bound_both (rw c.in-Some-first.is at (rw c.in-Some.is at (c.in_ok-first.ensures {u = tt}).upper)) (c.in-Some-eat.ensures {u = tt}).next (rw c.in-Some-2.is at (c.in_ok-high.ensures {u = tt}).upper)

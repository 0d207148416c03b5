use Rattle.form_specification.proofs.DataParts.{const_repeated, no_repeated, const_once, no_const}
use Rattle.form_specification.proofs.initial_values.ConstPartPart.read.Goals as goal

pub returns-in_default-2-clause-part : goal.returns-in_default-2-clause-part
returns-in_default-2-clause-part c = no_repeated (rw c.in-Some.is at (c.in_ok-r.ensures {u = tt}).repeat) (rw c.in_default-2.is at (c.in_ok-value.ensures {u = tt}).value)

pub returns-in-Some-clause-part : goal.returns-in-Some-clause-part
returns-in-Some-clause-part c = const_repeated (rw c.in-Some.is at (c.in_ok-r.ensures {u = tt}).repeat) (rw c.in-Some-2.is at (c.in_ok-value.ensures {u = tt}).value)

pub returns-in_default-3-clause-part : goal.returns-in_default-3-clause-part
returns-in_default-3-clause-part c = no_const (rw c.in_default.is at (c.in_ok-r.ensures {u = tt}).repeat) (rw c.in_default-3.is at (c.in_ok-value-2.ensures {u = tt}).value)

pub returns-clause-part : goal.returns-clause-part
returns-clause-part c = const_once (rw c.in_default.is at (c.in_ok-r.ensures {u = tt}).repeat) (rw c.in-Some-3.is at (c.in_ok-value-2.ensures {u = tt}).value)

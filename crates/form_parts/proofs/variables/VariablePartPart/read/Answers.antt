use Rattle.form_parts.proofs.Elements.{is_element, is_bare}
use Rattle.form_parts.proofs.variables.VariablePartPart.read.Goals as goal

pub returns-in_default-2-clause-part : goal.returns-in_default-2-clause-part
returns-in_default-2-clause-part c = is_bare (rw c.in-Some.is at (c.in_ok-name.ensures {u = tt}).name) (rw c.in_default-2.is at (c.in_ok-subscripts.ensures {u = tt}).list)

pub returns-clause-part : goal.returns-clause-part
returns-clause-part c = is_element (rw c.in-Some.is at (c.in_ok-name.ensures {u = tt}).name) (rw c.in-Some-2.is at (c.in_ok-subscripts.ensures {u = tt}).list)

use Rattle.form_specification.proofs.Declaring.{declares_array, declares_plain}
use Rattle.form_specification.proofs.dimensions.DeclaratorPartPart.read.Goals as goal

pub returns-in_default-2-clause-part : goal.returns-in_default-2-clause-part
returns-in_default-2-clause-part c = rw c.new-bounds.ensures (declares_plain (rw c.in-Some.is at (c.in_ok-name.ensures {u = tt}).name) (rw c.in_default-2.is at (c.in_ok-bounds.ensures {u = tt}).bounds))

pub returns-clause-part : goal.returns-clause-part
returns-clause-part c = declares_array (rw c.in-Some.is at (c.in_ok-name.ensures {u = tt}).name) (rw c.in-Some-2.is at (c.in_ok-bounds.ensures {u = tt}).bounds)

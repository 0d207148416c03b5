use Rattle.form_specification.proofs.Constants.{no_equals}
use Rattle.form_specification.proofs.named_constants.ConstantPartPart.read.Goals as goal

pub returns-in_default-eat-clause-part : goal.returns-in_default-eat-clause-part
returns-in_default-eat-clause-part c = no_equals (rw c.in-Some.is at (c.in_ok-name.ensures {u = tt}).name) (c.in_default-eat.ensures {u = tt}).next

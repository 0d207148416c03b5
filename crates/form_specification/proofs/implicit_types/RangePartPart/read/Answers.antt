use Rattle.form_specification.proofs.Letters.{one_letter, two_letters}
use Rattle.form_specification.proofs.implicit_types.RangePartPart.read.Goals as goal

pub returns-in_default-eat-clause-part : goal.returns-in_default-eat-clause-part
returns-in_default-eat-clause-part c = one_letter (c.in-Some.ensures {u = tt}).letter (c.in_default-eat.ensures {u = tt}).next

pub returns-clause-part : goal.returns-clause-part
returns-clause-part c = two_letters (c.in-Some.ensures {u = tt}).letter (c.in-Some-eat.ensures {u = tt}).next (c.in-Some-letter.ensures {u = tt}).letter

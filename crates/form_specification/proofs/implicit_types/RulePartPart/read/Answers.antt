use Rattle.form_specification.proofs.Letters.{is_rule, no_type, no_letters}
use Rattle.form_specification.proofs.implicit_types.RulePartPart.read.Goals as goal

pub returns-in_default-clause-part : goal.returns-in_default-clause-part
returns-in_default-clause-part c = no_type (c.in_default.ensures {u = tt}).word

pub returns-in_default-2-clause-part : goal.returns-in_default-2-clause-part
returns-in_default-2-clause-part c = no_letters (c.in-Some.ensures {u = tt}).word (rw c.in_default-2.is at (c.in_ok-letters.ensures {u = tt}).list)

pub returns-clause-part : goal.returns-clause-part
returns-clause-part c = is_rule (c.in-Some.ensures {u = tt}).word (rw c.in-Some-2.is at (c.in_ok-letters.ensures {u = tt}).list)

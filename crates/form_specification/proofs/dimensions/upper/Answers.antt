use Rattle.form_specification.proofs.Bounds.{upper_star, upper_given, no_upper}
use Rattle.form_specification.proofs.dimensions.upper.Goals as goal

pub returns-in-Some-clause-upper : goal.returns-in-Some-clause-upper
returns-in-Some-clause-upper c = upper_star (c.in-Some.ensures {u = tt}).next

pub returns-in_default-2-clause-upper : goal.returns-in_default-2-clause-upper
returns-in_default-2-clause-upper c = no_upper (c.in_default.ensures {u = tt}).next (rw c.in_default-2.is at (c.in_ok-x.ensures {u = tt}).longest)

pub returns-clause-upper : goal.returns-clause-upper
returns-clause-upper c = upper_given (c.in_default.ensures {u = tt}).next (rw c.in-Some-2.is at (c.in_ok-x.ensures {u = tt}).longest)

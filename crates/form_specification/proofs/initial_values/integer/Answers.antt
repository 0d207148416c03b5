use Rattle.form_parts.proofs.Depths.{deepest-tail}
use Rattle.form_specification.proofs.initial_values.integer.Goals as goal

pub returns-in-Some-Int-default-clause-shallow : goal.returns-in-Some-Int-default-clause-shallow
returns-in-Some-Int-default-clause-shallow c = deepest-tail (c.in-Some-Int-default.ensures {u = tt}).cases.0 c.requires

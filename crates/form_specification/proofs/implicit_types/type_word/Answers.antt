use Rattle.form_parts.proofs.Depths.{deepest-tail}
use Rattle.form_specification.proofs.implicit_types.type_word.Goals as goal

pub returns-clause-shallow : goal.returns-clause-shallow
returns-clause-shallow c = deepest-tail (c.in-Some-Word-default.ensures {u = tt}).cases.0 c.requires

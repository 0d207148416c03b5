use Rattle.form_parts.proofs.Depths.{deepest-tail}
use Rattle.form_specification.proofs.implicit_types.letter.Goals as goal

pub returns-then-is_name-clause-shallow : goal.returns-then-is_name-clause-shallow
returns-then-is_name-clause-shallow c = deepest-tail (c.in-Some-Word-default.ensures {u = tt}).cases.0 c.requires

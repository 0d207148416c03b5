use Rattle.form_parts.proofs.Depths.{deepest-tail}
use Rattle.form_parts.proofs.reading.behind_comma.Goals as goal

pub returns-in-Some-clause-shallow : goal.returns-in-Some-clause-shallow
returns-in-Some-clause-shallow c = deepest-tail (c.in-Some.ensures {u = tt}).cases.0 c.requires

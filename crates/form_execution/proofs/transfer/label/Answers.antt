use Rattle.form_parts.proofs.Depths.{deepest-tail}
use Rattle.form_execution.proofs.transfer.label.Goals as goal

pub returns-clause-shallow : goal.returns-clause-shallow
returns-clause-shallow c = deepest-tail (c.in-Some-Int-default.ensures {u = tt}).cases.0 c.requires

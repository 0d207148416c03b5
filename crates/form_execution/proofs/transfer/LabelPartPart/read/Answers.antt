use Rattle.form_parts.proofs.Fronts.{part_of_front, no_part_of_front}
use Rattle.form_execution.proofs.transfer.LabelPartPart.read.Goals as goal

pub returns-in_default-clause-part : goal.returns-in_default-clause-part
returns-in_default-clause-part c = no_part_of_front (c.in_default.ensures {u = tt}).label

pub returns-clause-part : goal.returns-clause-part
returns-clause-part c = part_of_front (c.in-Some.ensures {u = tt}).label

use Rattle.form_parts.proofs.Depths.{deepest-tail}
use Rattle.form_execution.proofs.InputsOutputs.{item_literal}
use Rattle.form_execution.proofs.input_output.ItemPartPart.read.Goals as goal

pub returns-in-Some-Text-default-clause-shallow : goal.returns-in-Some-Text-default-clause-shallow
returns-in-Some-Text-default-clause-shallow c = deepest-tail (c.in-Some-Text-default.ensures {u = tt}).cases.0 c.requires

pub returns-in-Some-Text-default-clause-part : goal.returns-in-Some-Text-default-clause-part
returns-in-Some-Text-default-clause-part c = rw (c.in_ok-bytes.ensures {u = tt}, c.as_slice.ensures) (item_literal (rw c.in-Some-Text-default.field-0-0-is at (c.in-Some-Text-default.ensures {u = tt}).cases.0))

use Rattle.form_specification.proofs.SavedParts.{saves_name, saves_block, saves_nothing}
use Rattle.form_specification.proofs.saved_items.SavedPartPart.read.Goals as goal

pub returns-in-Some-clause-part : goal.returns-in-Some-clause-part
returns-in-Some-clause-part c = saves_name (rw c.in-Some.is at (c.in_ok-name.ensures {u = tt}).name)

pub returns-in_default-2-clause-part : goal.returns-in_default-2-clause-part
returns-in_default-2-clause-part c = saves_nothing (rw c.in_default.is at (c.in_ok-name.ensures {u = tt}).name) (rw c.in_default-2.is at (c.in_ok-block.ensures {u = tt}).block)

pub returns-clause-part : goal.returns-clause-part
returns-clause-part c = saves_block (rw c.in_default.is at (c.in_ok-name.ensures {u = tt}).name) (rw c.in-Some-2.is at (c.in_ok-block.ensures {u = tt}).block)

use Rattle.form_specification.proofs.DataParts.{is_group, no_items, no_group}
use Rattle.form_specification.proofs.initial_values.GroupEntryEntry.read.Goals as goal

pub returns-in_default-clause-entry : goal.returns-in_default-clause-entry
returns-in_default-clause-entry c = no_items (rw c.in_default.is at (c.in_ok-items.ensures {u = tt}).list)

pub returns-in_default-2-clause-entry : goal.returns-in_default-2-clause-entry
returns-in_default-2-clause-entry c = no_group (rw c.in-Some.is at (c.in_ok-items.ensures {u = tt}).list) (rw c.in_default-2.is at (c.in_ok-consts.ensures {u = tt}).consts)

pub returns-clause-entry : goal.returns-clause-entry
returns-clause-entry c = is_group (rw c.in-Some.is at (c.in_ok-items.ensures {u = tt}).list) (rw c.in-Some-2.is at (c.in_ok-consts.ensures {u = tt}).consts)

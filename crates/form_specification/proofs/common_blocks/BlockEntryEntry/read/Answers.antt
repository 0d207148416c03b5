use Rattle.form_specification.proofs.Blocks.{is_entry, no_entry}
use Rattle.form_specification.proofs.common_blocks.BlockEntryEntry.read.Goals as goal

pub returns-in_default-2-clause-entry : goal.returns-in_default-2-clause-entry
returns-in_default-2-clause-entry c = no_entry (rw c.in-Some.is at (c.in_ok-name.ensures {u = tt}).block) (rw c.in_default-2.is at (c.in_ok-all.ensures {u = tt}).list)

pub returns-clause-entry : goal.returns-clause-entry
returns-clause-entry c = is_entry (rw c.in-Some.is at (c.in_ok-name.ensures {u = tt}).block) (rw c.in-Some-2.is at (c.in_ok-all.ensures {u = tt}).list)

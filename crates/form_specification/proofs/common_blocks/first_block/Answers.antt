use Rattle.form_specification.proofs.Blocks.{first_without, first_with, no_first}
use Rattle.form_specification.proofs.common_blocks.first_block.Goals as goal

pub returns-in-Some-clause-entry : goal.returns-in-Some-clause-entry
returns-in-Some-clause-entry c = rw c.blank_name.ensures (first_without (rw c.in-Some.is at (c.in_ok-all.ensures {u = tt}).list))

pub returns-in_default-2-clause-entry : goal.returns-in_default-2-clause-entry
returns-in_default-2-clause-entry c = no_first (rw c.in_default.is at (c.in_ok-all.ensures {u = tt}).list) (rw c.in_default-2.is at (c.in_ok-first.ensures {u = tt}).entry)

pub returns-clause-entry : goal.returns-clause-entry
returns-clause-entry c = first_with (rw c.in_default.is at (c.in_ok-all.ensures {u = tt}).list) (rw c.in-Some-2.is at (c.in_ok-first.ensures {u = tt}).entry)

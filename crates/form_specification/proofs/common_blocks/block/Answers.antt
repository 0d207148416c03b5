use Rattle.form_specification.proofs.Blocks.{blank_block, block_named, no_block}
use Rattle.form_specification.proofs.common_blocks.block.Goals as goal

pub returns-in-Some-clause-block : goal.returns-in-Some-clause-block
returns-in-Some-clause-block c = rw c.blank_name.ensures (blank_block (c.in-Some.ensures {u = tt}).slashes)

pub returns-in_default-2-clause-block : goal.returns-in_default-2-clause-block
returns-in_default-2-clause-block c = no_block (c.in_default.ensures {u = tt}).slashes (rw c.in_default-2.is at (c.in_ok-name.ensures {u = tt}).block)

pub returns-clause-block : goal.returns-clause-block
returns-clause-block c = block_named (c.in_default.ensures {u = tt}).slashes (rw c.in-Some-2.is at (c.in_ok-name.ensures {u = tt}).block)

use Rattle.form_specification.proofs.Blocks.{no_block_opens, no_block_closes}
use Rattle.form_specification.proofs.common_blocks.named_block.Goals as goal

pub returns-in_default-clause-block : goal.returns-in_default-clause-block
returns-in_default-clause-block c = no_block_opens (c.in_default.ensures {u = tt}).next

pub returns-in_default-eat-clause-block : goal.returns-in_default-eat-clause-block
returns-in_default-eat-clause-block c = no_block_closes (c.in-Some.ensures {u = tt}).next (rw c.in-Some-2.is at (c.in_ok-name.ensures {u = tt}).name) (c.in_default-eat.ensures {u = tt}).next

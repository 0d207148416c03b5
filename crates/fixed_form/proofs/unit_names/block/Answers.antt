use Rattle.fixed_form.proofs.HeadNames.{no_block}
use Rattle.fixed_form.proofs.unit_names.block.Goals as goal

pub returns-in_default : goal.returns-in_default
returns-in_default c = no_block (rw c.as_slice.ensures at (c.in_default.ensures {u = tt}))

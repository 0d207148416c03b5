use Rattle.check_jumps.proofs.Opening.{ends_by}
use Rattle.check_jumps.proofs.parts.Parts.ends_block.Goals as goal

pub returns : goal.returns
returns c = rw c.as_slice.ensures (ends_by _ c.args.e _ (c.args.self.now.right.each c.args.e c.requires))

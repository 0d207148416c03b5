use Rattle.check_jumps.proofs.Chains.{enters_above}
use Rattle.check_jumps.proofs.intervals.Intervals.enters.Goals as goal

pub returns-then-k-t : goal.returns-then-k-t
returns-then-k-t c = rw c.as_slice.ensures (enters_above _ _ _ _ c.if-k-t.true (c.args.self.now.right.greatest.each c.args.t c.requires.to))

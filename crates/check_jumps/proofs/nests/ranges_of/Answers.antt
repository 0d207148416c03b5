use Rattle.check_jumps.proofs.Opening.{choices_more}
use Rattle.check_jumps.proofs.nests.ranges_of.Goals as goal

pub loop-k-preserved : goal.loop-k-preserved
loop-k-preserved c = rw (c.in_ok-push.ensures.ok) (choices_more _ _ c.loop-k.k _ _ c.loop-k.invariant c.range_end.ensures)

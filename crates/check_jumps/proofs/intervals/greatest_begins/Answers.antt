use Rattle.check_jumps.proofs.Chains.{begins_more}
use Rattle.check_jumps.proofs.intervals.greatest_begins.Goals as goal

pub loop-j-preserved : goal.loop-j-preserved
loop-j-preserved c = rw (c.in_ok-push.ensures.ok) (begins_more _ c.loop-j.j _ _ c.loop-j.invariant c.greatest_begin-begin.ensures)

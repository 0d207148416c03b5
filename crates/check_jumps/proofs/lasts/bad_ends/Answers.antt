use Rattle.check_jumps.proofs.Flags.{flags_more}
use Rattle.check_jumps.proofs.lasts.bad_ends.Goals as goal

pub loop-k-preserved : goal.loop-k-preserved
loop-k-preserved c = rw (c.in_ok-push.ensures.ok) (flags_more _ c.loop-k.k _ _ c.loop-k.invariant c.ends_badly.ensures)

use Rattle.check_jumps.proofs.Flags.{flags_more}
use Rattle.check_jumps.proofs.labels.nowhere.Goals as goal

pub loop-k-preserved : goal.loop-k-preserved
loop-k-preserved c = rw (c.in_ok-push.ensures.ok) (flags_more _ c.loop-k.k _ _ c.loop-k.invariant (c.in_ok-flag.ensures {u = tt}))

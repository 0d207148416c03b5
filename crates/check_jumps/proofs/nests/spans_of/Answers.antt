use Rattle.check_jumps.proofs.Spanning.{spans_more}
use Rattle.check_jumps.proofs.nests.spans_of.Goals as goal

pub loop-k-preserved : goal.loop-k-preserved
loop-k-preserved c = rw (c.in_ok-push.ensures.ok) (spans_more _ c.loop-k.k _ _ c.loop-k.invariant c.span_end.ensures)

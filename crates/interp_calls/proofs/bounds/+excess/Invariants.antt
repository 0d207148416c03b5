use Rattle.std.proofs.Common.{length}
use Rattle.interp_calls.proofs.bounds.+excess.Given as goal

abbrev pub decreases-excess : goal.decreases-excess
decreases-excess l = length l.extents.now

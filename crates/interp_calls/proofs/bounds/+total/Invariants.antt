use Rattle.std.proofs.Common.{length}
use Rattle.interp_calls.proofs.bounds.+total.Given as goal

abbrev pub decreases-total : goal.decreases-total
decreases-total l = length l.extents.now

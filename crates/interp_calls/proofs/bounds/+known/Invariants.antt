use Rattle.std.proofs.Common.{length}
use Rattle.interp_calls.proofs.bounds.+known.Given as goal

abbrev pub decreases-known : goal.decreases-known
decreases-known l = length l.extents.now

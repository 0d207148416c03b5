use Rattle.std.proofs.Common.{length}
use Rattle.interp_data.proofs.values.+numbered.Given as goal

abbrev pub decreases-numbered : goal.decreases-numbered
decreases-numbered l = length l.extents.now

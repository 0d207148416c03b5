use Rattle.std.proofs.Common.{length}
use Rattle.interp_steps.proofs.elements.+push_numbers.Given as goal

abbrev pub decreases-push_numbers : goal.decreases-push_numbers
decreases-push_numbers l = length l.values.now

use Rattle.std.proofs.Common.{◌≡◌, ◌++◌, reverse, length}
use Rattle.rn_draft.proofs.drafts.reversed.Given as goal

abbrev pub invariant-loop-unit : goal.invariant-loop-unit
invariant-loop-unit l = l.fn.units ≡ l.units ++ reverse l.back

abbrev pub decreases-loop-unit : goal.decreases-loop-unit
decreases-loop-unit l = length l.units

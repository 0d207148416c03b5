use Rattle.std.proofs.Common.{◌≡◌, drop}
use Rattle.check_constants.specs.Needed.{bounds_lack}
use Rattle.check_constants.proofs.needed.bounds_lack.Given as goal

-- None of the first bounds is wrong.
abbrev pub invariant-loop-k : goal.invariant-loop-k
invariant-loop-k l = bounds_lack l.facts l.commons l.defined l.dummy (drop l.k l.bounds) ≡ bounds_lack l.facts l.commons l.defined l.dummy l.bounds

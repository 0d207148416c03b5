use Rattle.std.proofs.Common.{◌≡◌, drop}
use Rattle.f77_semantics.specs.Values.{least}
use Rattle.interp_steps.proofs.intrinsics.least.Given as goal

abbrev pub invariant-loop-other : goal.invariant-loop-other
invariant-loop-other l = least l.best (drop l.other-index l.others) ≡ least l.fn.first l.others

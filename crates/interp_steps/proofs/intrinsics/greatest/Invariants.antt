use Rattle.std.proofs.Common.{◌≡◌, drop}
use Rattle.f77_semantics.specs.Values.{greatest}
use Rattle.interp_steps.proofs.intrinsics.greatest.Given as goal

abbrev pub invariant-loop-other : goal.invariant-loop-other
invariant-loop-other l = greatest l.best (drop l.other-index l.others) ≡ greatest l.fn.first l.others

use Rattle.f77_flow.specs.Checks.{EndsLoopBadly}
use Rattle.check_jumps.specs.Telling.{AreFlags}
use Rattle.check_jumps.proofs.lasts.bad_ends.Given as goal

abbrev pub invariant-loop-k : goal.invariant-loop-k
invariant-loop-k l = AreFlags (EndsLoopBadly l.control.statements.now) l.k l.flags

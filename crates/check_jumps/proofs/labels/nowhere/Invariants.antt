use Rattle.f77_flow.specs.Checks.{JumpsNowhere}
use Rattle.check_jumps.specs.Telling.{AreFlags}
use Rattle.check_jumps.proofs.labels.nowhere.Given as goal

abbrev pub invariant-loop-k : goal.invariant-loop-k
invariant-loop-k l = AreFlags (JumpsNowhere l.control.statements.now) l.k l.flags

use Rattle.std.proofs.Common.{IsTrue}
use Rattle.f77_flow.specs.Labels.{last_of, has_range}
use Rattle.check_jumps.specs.Telling.{AreChoices}
use Rattle.check_jumps.proofs.nests.ranges_of.Given as goal

abbrev pub invariant-loop-k : goal.invariant-loop-k
invariant-loop-k l = AreChoices (λ d. IsTrue (has_range l.control.statements.now d)) (last_of l.control.statements.now) l.k l.ends

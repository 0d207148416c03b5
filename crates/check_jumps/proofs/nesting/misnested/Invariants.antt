use Rattle.f77_flow.specs.Checks.{IsMisnested}
use Rattle.check_jumps.specs.Telling.{AreFlags}
use Rattle.check_jumps.proofs.nesting.misnested.Given as goal

abbrev pub invariant-loop-k : goal.invariant-loop-k
invariant-loop-k l = AreFlags (IsMisnested l.nests.parts.control.statements.now) l.k l.flags

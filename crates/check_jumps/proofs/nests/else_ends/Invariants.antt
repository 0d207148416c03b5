use Rattle.f77_flow.specs.Blocks.{end_if}
use Rattle.check_jumps.specs.Telling.{AreChoices}
use Rattle.check_jumps.specs.Parts.{IsElsePart}
use Rattle.check_jumps.proofs.nests.else_ends.Given as goal

abbrev pub invariant-loop-k : goal.invariant-loop-k
invariant-loop-k l = AreChoices (IsElsePart l.parts.control.statements.now) (end_if l.parts.control.statements.now) l.k l.ends

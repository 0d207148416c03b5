use Rattle.f77_flow.specs.Blocks.{end_if}
use Rattle.f77_flow.specs.Spans.{IsBlock}
use Rattle.check_jumps.specs.Telling.{AreChoices}
use Rattle.check_jumps.proofs.parts.block_ends.Given as goal

abbrev pub invariant-loop-k : goal.invariant-loop-k
invariant-loop-k l = AreChoices (IsBlock l.control.statements.now) (end_if l.control.statements.now) l.k l.ends

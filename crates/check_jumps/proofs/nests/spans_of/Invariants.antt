use Rattle.check_jumps.specs.Nests.{AreSpansTo}
use Rattle.check_jumps.proofs.nests.spans_of.Given as goal

abbrev pub invariant-loop-k : goal.invariant-loop-k
invariant-loop-k l = AreSpansTo l.control.statements.now l.k l.ends

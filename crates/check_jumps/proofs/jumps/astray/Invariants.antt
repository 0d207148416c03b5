use Rattle.check_jumps.specs.Astray.{AreTold}
use Rattle.check_jumps.proofs.jumps.astray.Given as goal

abbrev pub invariant-loop-k : goal.invariant-loop-k
invariant-loop-k l = AreTold l.nests.parts.control.statements.now l.k l.flags

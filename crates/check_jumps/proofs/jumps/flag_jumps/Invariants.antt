use Rattle.check_jumps.specs.Telling.{Marks}
use Rattle.check_jumps.specs.Astray.{IsToldOf}
use Rattle.check_jumps.proofs.jumps.flag_jumps.Given as goal

abbrev pub invariant-loop-label : goal.invariant-loop-label
invariant-loop-label l = Marks (IsToldOf l.nests.parts.control.statements.now l.k l.labels l.label-index) l.fn.flags l.flags

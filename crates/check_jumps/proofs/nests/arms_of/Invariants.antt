use Rattle.std.proofs.Common.{◌-◌}
use Rattle.f77_flow.specs.Blocks.{arm_end}
use Rattle.check_jumps.specs.Telling.{AreChoices}
use Rattle.check_jumps.specs.Parts.{BeginsArm}
use Rattle.check_jumps.proofs.nests.arms_of.Given as goal

abbrev pub invariant-loop-k : goal.invariant-loop-k
invariant-loop-k l = AreChoices (BeginsArm l.parts.control.statements.now) (λ h. arm_end l.parts.control.statements.now h - 1) l.k l.ends

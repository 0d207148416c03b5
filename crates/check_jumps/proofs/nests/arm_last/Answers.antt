use Rattle.std.proofs.Common.{arith}
use Rattle.check_jumps.proofs.Above.{arm_above}
use Rattle.check_jumps.proofs.nests.arm_last.Goals as goal

pub overflow_sub-result : goal.overflow_sub-result
overflow_sub-result c = omega (arith, c.arm_end.ensures, arm_above c.args.parts.now.control.statements.now c.args.h)

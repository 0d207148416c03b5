use Rattle.std.proofs.Common.{arith}
use Rattle.check_jumps.proofs.Crossing.{leaves_by, leaves_none}
use Rattle.check_jumps.proofs.nesting.leaves_arm.Goals as goal

pub returns-then-last-nests : goal.returns-then-last-nests
returns-then-last-nests c = leaves_none _ _ _ c.last-last.ensures (omega arith)

pub returns : goal.returns
returns c = leaves_by _ _ _ _ _ c.requires.right.of_arms c.requires.within c.last-last.ensures (omega arith) c.ends_before.ensures

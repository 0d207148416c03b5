use Rattle.std.proofs.Common.{arith}
use Rattle.check_jumps.proofs.Straying.{told_none, told_not, told_set}
use Rattle.check_jumps.proofs.jumps.flag_jump.Goals as goal

pub returns-then-t-nests : goal.returns-then-t-nests
returns-then-t-nests c = told_none c.args.nests.now.parts.control.statements.now c.args.k c.args.label c.target-t.result _ c.target-t.ensures.value (omega arith)

pub returns-then-not-is_astray : goal.returns-then-not-is_astray
returns-then-not-is_astray c = told_not c.args.nests.now.parts.control.statements.now c.args.k c.args.label c.target-t.result _ c.target-t.ensures.value c.if-not-is_astray.ensures

pub returns : goal.returns
returns c = told_set c.args.nests.now.parts.control.statements.now c.args.k c.args.label c.target-t.result c.max.result _ _ c.target-t.ensures.value (omega arith) c.if-not-is_astray.ensures c.max.ensures (omega (arith, c.max.ensures)) c.set.ensures

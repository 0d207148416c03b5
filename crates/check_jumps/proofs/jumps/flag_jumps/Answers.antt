use Rattle.check_jumps.proofs.Straying.{told_of_none, told_of_more}
use Rattle.check_jumps.proofs.jumps.flag_jumps.Goals as goal

pub loop-label-init : goal.loop-label-init
loop-label-init c = told_of_none c.args.nests.now.parts.control.statements.now c.args.k c.args.labels.now _

pub loop-label-preserved : goal.loop-label-preserved
loop-label-preserved c = told_of_more c.args.nests.now.parts.control.statements.now c.args.k c.loop-label.label-index c.args.labels.now _ _ _ c.loop-label-test.true c.loop-label.invariant c.flag_jump.ensures

use Rattle.std.proofs.Common.{arith}
use Rattle.check_jumps.proofs.Labelling.{nowhere_none, nowhere_here, nowhere_more}
use Rattle.check_jumps.proofs.labels.leads_nowhere.Goals as goal

pub loop-label-init : goal.loop-label-init
loop-label-init c = nowhere_none c.args.control.now.statements.now c.args.labels.now

pub returns-then-target-control : goal.returns-then-target-control
returns-then-target-control c = nowhere_here c.args.control.now.statements.now c.args.labels.now c.loop-label.label-index c.loop-label-test.true (omega (arith, c.target.ensures.value))

pub loop-label-preserved : goal.loop-label-preserved
loop-label-preserved c = nowhere_more c.args.control.now.statements.now c.args.labels.now c.loop-label.label-index c.loop-label-test.true (omega (arith, c.target.ensures.value)) c.loop-label.invariant

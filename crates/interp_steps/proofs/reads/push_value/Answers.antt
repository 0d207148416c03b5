use Rattle.interp_steps.proofs.Plays.{pushed_on, stopped_on}
use Rattle.interp_steps.specs.Stacks.{stack_of}
use Rattle.interp_steps.proofs.reads.push_value.Goals as goal

pub returns-in_ok-push-in-Ok : goal.returns-in_ok-push-in-Ok
returns-in_ok-push-in-Ok c = λ h act w v e. pushed_on h act (stack_of c.args.stack.now.items) w v c.args.value e c.in-Ok.value _ c.in-Ok.is (c.in_ok-push-in-Ok.ensures {u = tt})

pub returns-in-Err : goal.returns-in-Err
returns-in-Err c = λ h act w v e. stopped_on h act (stack_of c.args.stack.now.items) w v c.args.value e c.in-Err.stop c.in-Err.is

use Rattle.interp_code.specs.Steps as steps
use Rattle.interp_steps.specs.Frames.{frame_of}
use Rattle.interp_steps.specs.Stacks.{stack_of}
use Rattle.interp_steps.specs.Worlds.{world_of}
use Rattle.interp_steps.proofs.Plays.{moved}
use Rattle.interp_steps.proofs.steps.step.Goals as goal
use Rattle.interp_code.specs.declared.step.Step.TheVariants.{Compute, Deny, Keep, Negate, Number, Open, Operate, Push, Show}

pub returns-in-Push-clause-moves : goal.returns-in-Push-clause-moves
returns-in-Push-clause-moves c = rw c.in-Push.is (λ h. moved c.push_step.result (λ _. stack_of c.push_step.new.stack.items) (steps.step (frame_of c.args.frame.now) (Push c.in-Push.value) (stack_of c.args.stack.now.items)) (c.push_step.ensures (frame_of c.args.frame.now)) h (world_of c.args.state.now))

pub returns-in-Show-clause-moves : goal.returns-in-Show-clause-moves
returns-in-Show-clause-moves c = rw c.in-Show.is (λ h. moved c.show_step.result (λ _. stack_of c.show_step.new.stack.items) (steps.step (frame_of c.args.frame.now) (Show c.in-Show.bytes) (stack_of c.args.stack.now.items)) (c.show_step.ensures (frame_of c.args.frame.now)) h (world_of c.args.state.now))

pub returns-in-Open-clause-moves : goal.returns-in-Open-clause-moves
returns-in-Open-clause-moves c = rw c.in-Open.is (λ h. moved c.open_step.result (λ _. stack_of c.open_step.new.stack.items) (steps.step (frame_of c.args.frame.now) Open (stack_of c.args.stack.now.items)) (c.open_step.ensures (frame_of c.args.frame.now)) h (world_of c.args.state.now))

pub returns-in-Compute-clause-moves : goal.returns-in-Compute-clause-moves
returns-in-Compute-clause-moves c = rw c.in-Compute.is (λ h. moved c.compute_step.result (λ _. stack_of c.compute_step.new.stack.items) (steps.step (frame_of c.args.frame.now) (Compute c.in-Compute.which) (stack_of c.args.stack.now.items)) (c.compute_step.ensures (frame_of c.args.frame.now)) h (world_of c.args.state.now))

pub returns-in-Keep-clause-moves : goal.returns-in-Keep-clause-moves
returns-in-Keep-clause-moves c = rw c.in-Keep.is (λ h. moved c.keep_step.result (λ _. stack_of c.keep_step.new.stack.items) (steps.step (frame_of c.args.frame.now) Keep (stack_of c.args.stack.now.items)) (c.keep_step.ensures (frame_of c.args.frame.now)) h (world_of c.args.state.now))

pub returns-in-Negate-clause-moves : goal.returns-in-Negate-clause-moves
returns-in-Negate-clause-moves c = rw c.in-Negate.is (λ h. moved c.negate_step.result (λ _. stack_of c.negate_step.new.stack.items) (steps.step (frame_of c.args.frame.now) Negate (stack_of c.args.stack.now.items)) (c.negate_step.ensures (frame_of c.args.frame.now)) h (world_of c.args.state.now))

pub returns-in-Deny-clause-moves : goal.returns-in-Deny-clause-moves
returns-in-Deny-clause-moves c = rw c.in-Deny.is (λ h. moved c.deny_step.result (λ _. stack_of c.deny_step.new.stack.items) (steps.step (frame_of c.args.frame.now) Deny (stack_of c.args.stack.now.items)) (c.deny_step.ensures (frame_of c.args.frame.now)) h (world_of c.args.state.now))

pub returns-in-Operate-clause-moves : goal.returns-in-Operate-clause-moves
returns-in-Operate-clause-moves c = rw c.in-Operate.is (λ h. moved c.operate_step.result (λ _. stack_of c.operate_step.new.stack.items) (steps.step (frame_of c.args.frame.now) (Operate c.in-Operate.op) (stack_of c.args.stack.now.items)) (c.operate_step.ensures (frame_of c.args.frame.now)) h (world_of c.args.state.now))

pub returns-in-Number-clause-moves : goal.returns-in-Number-clause-moves
returns-in-Number-clause-moves c = rw c.in-Number.is (λ h. moved c.number_step.result (λ _. stack_of c.number_step.new.stack.items) (steps.step (frame_of c.args.frame.now) Number (stack_of c.args.stack.now.items)) (c.number_step.ensures (frame_of c.args.frame.now)) h (world_of c.args.state.now))

pub returns-in-Fetch-clause-moves : goal.returns-in-Fetch-clause-moves
returns-in-Fetch-clause-moves c = rw c.in-Fetch.is (λ h. c.fetch_step.ensures h)

pub returns-in-Load-clause-moves : goal.returns-in-Load-clause-moves
returns-in-Load-clause-moves c = rw c.in-Load.is (λ h. c.load_step.ensures (frame_of c.args.frame.now) h)

pub returns-in-Hold-clause-moves : goal.returns-in-Hold-clause-moves
returns-in-Hold-clause-moves c = rw c.in-Hold.is (λ h. c.hold_step.ensures.moves h)

pub returns-in-TakeIn-clause-moves : goal.returns-in-TakeIn-clause-moves
returns-in-TakeIn-clause-moves c = rw c.in-TakeIn.is (λ h. c.take_step.ensures.moves (frame_of c.args.frame.now) h)

use Rattle.std.proofs.Common.{option_map}
use Rattle.f77_semantics.specs.Statements.{return}
use Rattle.interp_steps.specs.Frames.{frame_of}
use Rattle.interp_steps.specs.Stacks.{stack_of}
use Rattle.interp_steps.specs.Worlds.{world_of}
use Rattle.interp_steps.proofs.Plays.{done_goes, fails}
use Rattle.interp_turns.specs.Flows.{variable_of}
use Rattle.interp_turns.specs.Operands.{nothing}
use Rattle.interp_turns.specs.Turns.{after_of}
use Rattle.interp_turns.proofs.endings.leave.Goals as goal

pub returns-in-Ok : goal.returns-in-Ok
returns-in-Ok c = λ h.
    done_goes h (nothing (stack_of c.args.stack.now)) (λ _. return (frame_of c.args.frame.now) (option_map variable_of c.args.variable)) (world_of c.args.state.now)
    c.answer.result (λ t. after_of t c.args.here.now) (world_of c.args.state.now) tt c.in-Ok.ensures (c.answer.ensures h)

pub returns-in-Err : goal.returns-in-Err
returns-in-Err c = λ h.
    fails h (nothing (stack_of c.args.stack.now)) (λ _. return (frame_of c.args.frame.now) (option_map variable_of c.args.variable)) (world_of c.args.state.now) c.in-Err.stop c.in-Err.ensures

use Rattle.run_model.specs.Acts.{and_then}
use Rattle.f77_flow.specs.Graph.{after}
use Rattle.f77_semantics.specs.Expressions.{store}
use Rattle.f77_semantics.specs.Statements.{to}
use Rattle.interp_cells.specs.Spots.{loc_of}
use Rattle.interp_steps.specs.Stacks.{stack_of}
use Rattle.interp_steps.specs.Worlds.{world_of}
use Rattle.interp_steps.proofs.Plays.{done_goes, fails}
use Rattle.interp_turns.specs.Operands.{assigned}
use Rattle.interp_turns.specs.Places.{here_of}
use Rattle.interp_turns.specs.Turns.{after_of}
use Rattle.interp_turns.proofs.endings.assign.Goals as goal

pub returns-in-Ok-clause-turn : goal.returns-in-Ok-clause-turn
returns-in-Ok-clause-turn c = λ h.
    done_goes h (assigned (stack_of c.args.stack.now)) (λ p. and_then (store p.1 p.0) (λ _. to (after c.args.control.now.statements.now c.args.k) (here_of c.args.here.now))) (world_of c.args.state.now)
    c.store.result (λ t. after_of t c.store.new.here) (world_of c.store.new.state) (c.in-Ok.pair.0, loc_of c.in-Ok.pair.1) c.in-Ok.ensures (c.store.ensures.turn h)

pub returns-in-Err-clause-turn : goal.returns-in-Err-clause-turn
returns-in-Err-clause-turn c = λ h.
    fails h (assigned (stack_of c.args.stack.now)) (λ p. and_then (store p.1 p.0) (λ _. to (after c.args.control.now.statements.now c.args.k) (here_of c.args.here.now))) (world_of c.args.state.now) c.in-Err.stop c.in-Err.ensures

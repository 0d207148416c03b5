use Rattle.std.proofs.Common.{◌≡◌, subst, sym, ap, ◌∙◌}
use Rattle.run_model.specs.Storage.{Loc}
use Rattle.run_model.specs.Acts.{Fine, Stop, and_then, play}
use Rattle.f77_semantics.specs.Expressions.{store}
use Rattle.interp_cells.specs.Spots.{loc_of}
use Rattle.interp_code.specs.Steps.{Operands, Passed, push}
use Rattle.interp_steps.specs.Frames.{interval_of}
use Rattle.interp_steps.specs.Stacks.{stack_of}
use Rattle.interp_steps.specs.Stops.{Stopped}
use Rattle.interp_steps.specs.Worlds.{world_of}
use Rattle.interp_steps.proofs.Plays.{goes_on, stops, weaker}
use Rattle.interp_steps.proofs.stores.hold.Goals as goal

pub returns-in_ok-push-in-Ok-clause-moves : goal.returns-in_ok-push-in-Ok-clause-moves
returns-in_ok-push-in-Ok-clause-moves c = λ h.
    let w = world_of c.args.state.now in
    let v = world_of c.store.new.self in
    let s = stack_of c.args.stack.now.items in
    let i = interval_of c.args.i in
    subst (λ (l : Loc). play h (and_then (store l c.args.value) (λ _. push s (Passed i))) w ≡ Fine (stack_of c.push.new.stack.items) v) (c.in_ok-spot.ensures {u = tt})
    (goes_on h (store (loc_of c.in_ok-spot.spot) c.args.value) (λ _. push s (Passed i)) w v tt (c.in-Ok.ensures.moves h) ∙ ap (λ (u : Operands). Fine u v) (sym (c.in_ok-push-in-Ok.ensures {u = tt})))

pub returns-in-Err-clause-moves : goal.returns-in-Err-clause-moves
returns-in-Err-clause-moves c = λ h.
    let w = world_of c.args.state.now in
    let v = world_of c.store.new.self in
    let s = stack_of c.args.stack.now.items in
    let i = interval_of c.args.i in
    subst (λ (l : Loc). Stopped c.in-Err.stop (λ reason. play h (and_then (store l c.args.value) (λ _. push s (Passed i))) w ≡ Stop reason v)) (c.in_ok-spot.ensures {u = tt})
    (weaker c.in-Err.stop (λ reason. play h (store (loc_of c.in_ok-spot.spot) c.args.value) w ≡ Stop reason v) (λ reason. play h (and_then (store (loc_of c.in_ok-spot.spot) c.args.value) (λ _. push s (Passed i))) w ≡ Stop reason v)
    (stops h (store (loc_of c.in_ok-spot.spot) c.args.value) (λ _. push s (Passed i)) w v) (c.in-Err.ensures.moves h))

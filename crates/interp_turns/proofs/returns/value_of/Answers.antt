use Rattle.std.proofs.Common.{◌≡◌, Some, subst, sym, ap, ◌∙◌}
use Rattle.run_model.specs.Storage.{Loc}
use Rattle.run_model.specs.Acts.{Stop, Done, Act, and_then, play}
use Rattle.run_model.specs.Turns.{After, Result}
use Rattle.f77_tree.specs.declared.unit.Value.{Value}
use Rattle.f77_semantics.specs.Expressions.{fetch}
use Rattle.f77_semantics.specs.Statements.{Here}
use Rattle.f77_semantics.specs.Values.{stored}
use Rattle.interp_cells.specs.Spots.{loc_of}
use Rattle.interp_steps.specs.Stops.{Stopped}
use Rattle.interp_steps.specs.Worlds.{world_of}
use Rattle.interp_steps.proofs.Plays.{goes_on, ends_stops}
use Rattle.interp_turns.proofs.returns.value_of.Goals as goal

abbrev resulting : Value → Act (After Here)
resulting v = Done (Result (Some (stored v)))

pub returns-in-Ok : goal.returns-in-Ok
returns-in-Ok c = λ h.
    let w = world_of c.args.state.now in
    ap (λ (l : Loc). play h (and_then (fetch c.args.ty l) resulting) w) (sym (c.in_ok-spot.ensures {u = tt})) ∙ goes_on h (fetch c.args.ty (loc_of c.in_ok-spot.spot)) resulting w w c.in-Ok.value (c.in-Ok.ensures h)

pub returns-in-Err : goal.returns-in-Err
returns-in-Err c = λ h.
    let w = world_of c.args.state.now in
    subst (λ (l : Loc). Stopped c.in-Err.stop (λ reason. play h (and_then (fetch c.args.ty l) resulting) w ≡ Stop reason w)) (c.in_ok-spot.ensures {u = tt})
    (ends_stops h (fetch c.args.ty (loc_of c.in_ok-spot.spot)) resulting w c.in-Err.stop w (c.in-Err.ensures h))

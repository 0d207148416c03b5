use Rattle.std.proofs.Common.{◌≡◌, ap, sym, subst, ◌∙◌}
use Rattle.run_model.specs.Storage.{Loc}
use Rattle.run_model.specs.Acts.{Act, Done, Fine, Stop, and_then, play}
use Rattle.f77_semantics.specs.Expressions as e
use Rattle.interp_cells.specs.Spots.{loc_of}
use Rattle.interp_steps.specs.Stops.{Stopped}
use Rattle.interp_steps.specs.Worlds.{world_of}
use Rattle.interp_steps.proofs.Plays.{goes_on, ends_stops}
use Rattle.ir_core.specs.Runs as r
use Rattle.ir_run.specs.Images.{activation_of, values_of}
use Rattle.ir_run.proofs.memory.keep_value.Goals as goal

pub returns-in_ok-set-in-Ok : goal.returns-in_ok-set-in-Ok
returns-in_ok-set-in-Ok c = λ h.
    let vs = values_of c.args.values.now in
    let i = r.fresh (activation_of c.args.activation.now) c.args.seat in
    let vs2 = r.set c.args.to (r.Address i) vs in
    let f : Unit {0} → Act r.Values = λ _. Done vs2 in
    let before = world_of c.args.state.now in
    let after = world_of c.store.new.self in
    let is : values_of c.set.new.self ≡ vs2 = c.in_ok-set-in-Ok.ensures {u = tt} ∙ ap (λ i. r.set c.args.to (r.Address i) vs) c.fresh.ensures in
    subst (λ (l : Loc). play h (and_then (e.store l c.args.value) f) before ≡ Fine (values_of c.set.new.self) after) c.fresh_cell.ensures
    (goes_on h (e.store (loc_of c.fresh_cell.result) c.args.value) f before after tt (c.in-Ok.ensures.moves h) ∙ ap (λ (v : r.Values). Fine v after) (sym is))

pub returns-in-Err : goal.returns-in-Err
returns-in-Err c = λ h.
    let i = r.fresh (activation_of c.args.activation.now) c.args.seat in
    let f : Unit {0} → Act r.Values = λ _. Done (r.set c.args.to (r.Address i) (values_of c.args.values.now)) in
    let before = world_of c.args.state.now in
    let after = world_of c.store.new.self in
    subst (λ (l : Loc). Stopped c.in-Err.stop (λ reason. play h (and_then (e.store l c.args.value) f) before ≡ Stop reason after)) c.fresh_cell.ensures
    (ends_stops h (e.store (loc_of c.fresh_cell.result) c.args.value) f before c.in-Err.stop after (c.in-Err.ensures.moves h))

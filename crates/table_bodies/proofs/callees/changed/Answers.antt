use Rattle.std.proofs.Common.{◌≡◌, ◌∙◌, None, pos, ap, subst, sym}
use Rattle.run_model.specs.Storage as storage
use Rattle.run_model.specs.Acts.{Act, Answer, Done, Put, Stop, and_then, play}
use Rattle.f77_tree.specs.declared.unit.Value.TheVariants as tree
use Rattle.f77_semantics.specs.Expressions as e
use Rattle.interp_cells.specs.Spots.{loc_of}
use Rattle.interp_steps.specs.Stops.{Stopped}
use Rattle.interp_steps.specs.Worlds.{world_of}
use Rattle.interp_steps.proofs.Plays.{goes_on, ends_stops}
use Rattle.table_bodies.proofs.callees.changed.Goals as goal

abbrev made_9 : storage.Loc → Act Answer
made_9 l = Put l (storage.Integer (pos 9)) (Done None)

pub returns-in-Ok-store : goal.returns-in-Ok-store
returns-in-Ok-store c = λ h.
    let w = world_of c.args.state.now in
    let v = world_of c.store.new.self in
    let f : Unit {0} → Act Answer = λ _. Done None in
    ap (λ (a : Act storage.Loc). play h (and_then a made_9) w) c.in-Ok.ensures
    ∙ goes_on h (e.store (loc_of c.in-Ok.spot) (tree.Integer (pos 9))) f w v tt (c.in-Ok-store.ensures.moves h)

pub returns-in-Err-store : goal.returns-in-Err-store
returns-in-Err-store c = λ h.
    let w = world_of c.args.state.now in
    let v = world_of c.store.new.self in
    let f : Unit {0} → Act Answer = λ _. Done None in
    subst (λ (a : Act storage.Loc). Stopped c.in-Err-store.stop (λ reason. play h (and_then a made_9) w ≡ Stop reason v)) (sym (c.in-Ok.ensures {u = tt}))
    (ends_stops h (e.store (loc_of c.in-Ok.spot) (tree.Integer (pos 9))) f w c.in-Err-store.stop v (c.in-Err-store.ensures.moves h))

use Rattle.std.proofs.Common.{sym, ap, ◌∙◌}
use Rattle.run_model.specs.Acts.{Fine}
use Rattle.run_model.specs.Turns.{Again}
use Rattle.f77_flow.specs.Graph.{after}
use Rattle.f77_semantics.specs.Expressions as running
use Rattle.f77_semantics.specs.Statements.{to}
use Rattle.interp_cells.specs.Spots.{loc_of}
use Rattle.interp_steps.specs.Worlds.{world_of}
use Rattle.interp_steps.proofs.Plays.{goes_on, ends_stops}
use Rattle.interp_turns.specs.Places.{here_of}
use Rattle.interp_turns.proofs.endings.store.Goals as goal

pub returns-in-Ok-clause-turn : goal.returns-in-Ok-clause-turn
returns-in-Ok-clause-turn c = λ h.
    let s = here_of c.args.here.now in
    let v = world_of c.store.new.self in
    goes_on h (running.store (loc_of c.args.spot) c.args.value) (λ _. to (after c.args.control.now.statements.now c.args.k) s) (world_of c.args.state.now) v tt (c.in-Ok.ensures.moves h)
    ∙ ap (λ p. Fine (Again (record s { point = p })) v) (sym c.after-here.ensures.value)

pub returns-in-Err-clause-turn : goal.returns-in-Err-clause-turn
returns-in-Err-clause-turn c = λ h.
    ends_stops h (running.store (loc_of c.args.spot) c.args.value) (λ _. to (after c.args.control.now.statements.now c.args.k) (here_of c.args.here.now)) (world_of c.args.state.now) c.in-Err.stop (world_of c.store.new.self) (c.in-Err.ensures.moves h)

use Rattle.run_model.specs.Acts.{Act, Done}
use Rattle.f77_semantics.specs.Expressions as e
use Rattle.interp_cells.specs.Spots.{loc_of}
use Rattle.interp_steps.specs.Worlds.{world_of}
use Rattle.interp_steps.proofs.Plays.{goes_on, ends_stops}
use Rattle.ir_core.specs.Runs as r
use Rattle.ir_run.specs.Images.{values_of}
use Rattle.ir_run.proofs.memory.store_at.Goals as goal

pub returns-in-Ok : goal.returns-in-Ok
returns-in-Ok c = λ h.
    let f : Unit {0} → Act r.Values = λ _. Done (values_of c.args.values.now) in
    goes_on h (e.store (loc_of c.args.at) c.args.value) f (world_of c.args.state.now) (world_of c.store.new.self) tt (c.in-Ok.ensures.moves h)

pub returns-in-Err : goal.returns-in-Err
returns-in-Err c = λ h.
    let f : Unit {0} → Act r.Values = λ _. Done (values_of c.args.values.now) in
    ends_stops h (e.store (loc_of c.args.at) c.args.value) f (world_of c.args.state.now) c.in-Err.stop (world_of c.store.new.self) (c.in-Err.ensures.moves h)

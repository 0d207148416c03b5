use Rattle.std.proofs.Common.{rules, ◌≡◌}
use Rattle.run_model.specs.Acts.{Done, Put}
use Rattle.f77_semantics.specs.Values.{stored}
use Rattle.interp_cells.specs.Spots.{loc_of}
use Rattle.interp_steps.specs.Worlds.{world_of}
use Rattle.interp_steps.proofs.Plays.{done_goes}
use Rattle.ir_core.specs.Runs as r
use Rattle.ir_run.specs.Images.{values_of}
use Rattle.ir_run.proofs.memory.store_value.Goals as goal

pub returns-in-Ok : goal.returns-in-Ok
returns-in-Ok c = λ h.
    let vs = values_of c.args.values.now in
    let is : r.value vs.temporaries c.args.ty c.args.from ≡ Done (stored c.in-Ok.value) = search rules in
    done_goes h (r.value vs.temporaries c.args.ty c.args.from) (λ x. Put (loc_of c.args.at) x (Done vs)) (world_of c.args.state.now) c.store_at.result (λ _. vs) (world_of c.store_at.new.state) (stored c.in-Ok.value) is
    (c.store_at.ensures h)

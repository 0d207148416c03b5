use Rattle.std.proofs.Common.{rules, ◌≡◌}
use Rattle.run_model.specs.Acts.{Done, Get}
use Rattle.interp_cells.specs.Spots.{loc_of}
use Rattle.interp_steps.specs.Worlds.{world_of}
use Rattle.interp_steps.proofs.Plays.{done_goes}
use Rattle.ir_core.specs.Runs as r
use Rattle.ir_core.specs.Words as w
use Rattle.ir_run.specs.Images.{activation_of, values_of}
use Rattle.ir_run.proofs.memory.load.Goals as goal

pub returns-in-Ok : goal.returns-in-Ok
returns-in-Ok c = λ h.
    let vs = values_of c.args.values.now in
    let a = activation_of c.args.activation.now in
    let s = c.args.spot.now in
    let is : r.location a vs.temporaries s ≡ Done (loc_of c.in-Ok.at) = search rules in
    done_goes h (r.location a vs.temporaries s) (λ l. Get l (λ x. Done (r.set c.args.to (r.Word (w.word_of x)) vs))) (world_of c.args.state.now) c.load_at.result (λ _. values_of c.load_at.new.values) (world_of c.args.state.now) (loc_of c.in-Ok.at) is
    (c.load_at.ensures h)

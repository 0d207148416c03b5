use Rattle.std.proofs.Common.{rules, ◌≡◌}
use Rattle.run_model.specs.Acts.{Done, Put}
use Rattle.f77_semantics.specs.Values.{stored}
use Rattle.interp_steps.specs.Worlds.{world_of}
use Rattle.interp_steps.proofs.Plays.{done_goes}
use Rattle.ir_core.specs.Runs as r
use Rattle.ir_run.specs.Images.{activation_of, values_of}
use Rattle.ir_run.proofs.memory.keep.Goals as goal

pub returns-in-Ok : goal.returns-in-Ok
returns-in-Ok c = λ h.
    let vs = values_of c.args.values.now in
    let i = r.fresh (activation_of c.args.activation.now) c.args.seat in
    let act = r.value vs.temporaries c.args.typed.0 c.args.typed.1 in
    let is : act ≡ Done (stored c.in-Ok.value) = search rules in
    done_goes h act (λ x. Put (r.at i 0) x (Done (r.set c.args.to (r.Address i) vs))) (world_of c.args.state.now) c.keep_value.result (λ _. values_of c.keep_value.new.values) (world_of c.keep_value.new.state) (stored c.in-Ok.value) is
    (c.keep_value.ensures h)

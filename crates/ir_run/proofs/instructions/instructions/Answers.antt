use Rattle.std.proofs.Common.{◌≡◌, ◌∷◌, ◌∙◌, suc, sym, ap, drop}
use Rattle.std.proofs.Math.Seq.{drop-cons}
use Rattle.run_model.specs.Acts.{Stop, play}
use Rattle.interp_steps.specs.Worlds.{world_of}
use Rattle.interp_steps.proofs.Plays.{ends_stops, weaker}
use Rattle.ir_core.specs.Runs as r
use Rattle.ir_run.specs.Images.{activation_of, values_of}
use Rattle.ir_run.proofs.instructions.instructions.Goals as goal

pub returns-in-Err : goal.returns-in-Err
returns-in-Err g c =
    let h = g.C.Callees.handler c.args.callees.now in
    let a = activation_of c.args.activation.now in
    let code = c.args.code.now in
    let one = c.one-item.result in
    let others = drop (suc c.loop-one.one-index) code in
    let vs = values_of c.loop-one.values in
    let w = world_of c.loop-one.state in
    let w1 = world_of c.instruction.new.state in
    let next : drop c.loop-one.one-index code ≡ one ∷ others = drop-cons code c.loop-one.one-index one c.loop-one-test.true ∙ ap (λ x. x ∷ others) (sym c.one-item.is) in
    weaker c.in-Err.stop (λ reason. play h (r.instructions a (one ∷ others) vs) w ≡ Stop reason w1) (λ reason. play h (r.instructions a code (values_of c.args.values.now)) (world_of c.args.state.now) ≡ Stop reason w1)
    (λ reason e. sym c.loop-one.invariant ∙ (ap (λ is. play h (r.instructions a is vs) w) next ∙ e))
    (ends_stops h (r.instruction a one vs) (λ v. r.instructions a others v) w c.in-Err.stop w1 c.in-Err.ensures)

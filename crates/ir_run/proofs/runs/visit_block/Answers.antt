use Rattle.std.proofs.Common.{◌≡◌, [], List, subst}
use Rattle.run_model.specs.Acts.{Act, Fine, Stop, play}
use Rattle.run_model.specs.Turns.{After}
use Rattle.interp_steps.specs.Worlds.{world_of}
use Rattle.interp_steps.specs.Stops.{Gives, Stopped}
use Rattle.interp_steps.proofs.Plays.{ends_goes, ends_stops, moved}
use Rattle.ir_core.specs.declared.instruction.Instr.{Instr}
use Rattle.ir_core.specs.Runs as r
use Rattle.ir_run.specs.Images.{activation_of, temporaries_of, values_of}
use Rattle.ir_run.specs.Ends.{after_of}
use Rattle.ir_run.proofs.runs.visit_block.Goals as goal

pub returns-in-Ok : goal.returns-in-Ok
returns-in-Ok g c =
    let h = g.C.Callees.handler c.args.callees.now in
    let a = activation_of c.args.activation.now in
    let b = c.args.block.now in
    let w = world_of c.args.state.now in
    let w1 = world_of c.instructions.new.state in
    let vs : r.Values = record { temporaries = temporaries_of c.args.values.now.temporaries.items; arguments = [] } in
    let vs1 = values_of c.instructions.new.values in
    let f : r.Values → Act (After r.Here) = λ v. r.ending b.end v.temporaries in
    let told = subst (λ (is : List Instr). play h (r.instructions a is (values_of c.forget_arguments.new.self)) w ≡ Fine vs1 w1) c.as_slice.ensures c.in-Ok.ensures in
    let done = subst (λ (v : r.Values). play h (r.instructions a b.code v) w ≡ Fine vs1 w1) c.forget_arguments.ensures told in
    let ends = subst (λ ts. Gives c.end.result (λ t. after_of t (temporaries_of ts)) (r.ending b.end (temporaries_of ts))) c.as_slice-in-Ok.ensures.value c.end.ensures in
    ends_goes h (r.instructions a b.code vs) f w c.end.result (λ t. after_of t vs1.temporaries) w1 w1 vs1 done (moved c.end.result (λ t. after_of t vs1.temporaries) (f vs1) ends h w1)

pub returns-in-Err : goal.returns-in-Err
returns-in-Err g c =
    let h = g.C.Callees.handler c.args.callees.now in
    let a = activation_of c.args.activation.now in
    let b = c.args.block.now in
    let w = world_of c.args.state.now in
    let w1 = world_of c.instructions.new.state in
    let vs : r.Values = record { temporaries = temporaries_of c.args.values.now.temporaries.items; arguments = [] } in
    let told = subst (λ (is : List Instr). Stopped c.in-Err.stop (λ reason. play h (r.instructions a is (values_of c.forget_arguments.new.self)) w ≡ Stop reason w1)) c.as_slice.ensures c.in-Err.ensures in
    let stopped = subst (λ (v : r.Values). Stopped c.in-Err.stop (λ reason. play h (r.instructions a b.code v) w ≡ Stop reason w1)) c.forget_arguments.ensures told in
    ends_stops h (r.instructions a b.code vs) (λ v. r.ending b.end v.temporaries) w c.in-Err.stop w1 stopped

use Rattle.std.proofs.Common.{sym, subst}
use Rattle.run_model.specs.Acts.{play}
use Rattle.interp_steps.specs.Stops.{Ends}
use Rattle.interp_steps.specs.Worlds.{world_of}
use Rattle.interp_steps.proofs.Plays.{moved}
use Rattle.ir_core.specs.declared.instruction.Instr.{Instr}
use Rattle.ir_core.specs.declared.instruction.Instr.TheVariants as i
use Rattle.ir_core.specs.Runs as r
use Rattle.ir_run.specs.Images.{activation_of, values_of}
use Rattle.ir_run.proofs.instructions.instruction.Goals as goal

pub returns-in-Copy : goal.returns-in-Copy
returns-in-Copy g c =
    let h = g.C.Callees.handler c.args.callees.now in
    let a = activation_of c.args.activation.now in
    let vs = values_of c.args.values.now in
    let w = world_of c.args.state.now in
    subst (λ (one : Instr). Ends c.copy.result (λ _. values_of c.copy.new.values) (w) (play h (r.instruction a one vs) w)) (sym c.in-Copy.is)
    (moved c.copy.result (λ _. values_of c.copy.new.values) (r.instruction a (i.Copy c.in-Copy.to c.in-Copy.from) vs) (c.copy.ensures a) h w)

pub returns-in-Calc : goal.returns-in-Calc
returns-in-Calc g c =
    let h = g.C.Callees.handler c.args.callees.now in
    let a = activation_of c.args.activation.now in
    let vs = values_of c.args.values.now in
    let w = world_of c.args.state.now in
    subst (λ (one : Instr). Ends c.compute.result (λ _. values_of c.compute.new.values) (w) (play h (r.instruction a one vs) w)) (sym c.in-Calc.is)
    (moved c.compute.result (λ _. values_of c.compute.new.values) (r.instruction a (i.Calc c.in-Calc.to c.in-Calc.calc c.in-Calc.left c.in-Calc.right) vs) (c.compute.ensures a) h w)

pub returns-in-Argument : goal.returns-in-Argument
returns-in-Argument g c =
    let h = g.C.Callees.handler c.args.callees.now in
    let a = activation_of c.args.activation.now in
    let vs = values_of c.args.values.now in
    let w = world_of c.args.state.now in
    subst (λ (one : Instr). Ends c.pass.result (λ _. values_of c.pass.new.values) (w) (play h (r.instruction a one vs) w)) (sym c.in-Argument.is)
    (moved c.pass.result (λ _. values_of c.pass.new.values) (r.instruction a (i.Argument c.in-Argument.position c.in-Argument.from) vs) (c.pass.ensures a) h w)

pub returns-in-Call : goal.returns-in-Call
returns-in-Call g c =
    let h = g.C.Callees.handler c.args.callees.now in
    let a = activation_of c.args.activation.now in
    let vs = values_of c.args.values.now in
    let w = world_of c.args.state.now in
    subst (λ (one : Instr). Ends c.call.result (λ _. values_of c.call.new.values) (world_of c.call.new.state) (play h (r.instruction a one vs) w)) (sym c.in-Call.is)
    (c.call.ensures a)

pub returns-in-PrintInt : goal.returns-in-PrintInt
returns-in-PrintInt g c =
    let h = g.C.Callees.handler c.args.callees.now in
    let a = activation_of c.args.activation.now in
    let vs = values_of c.args.values.now in
    let w = world_of c.args.state.now in
    subst (λ (one : Instr). Ends c.print_word.result (λ _. vs) (world_of c.print_word.new.state) (play h (r.instruction a one vs) w)) (sym c.in-PrintInt.is)
    (c.print_word.ensures a h)

pub returns-in-PrintTruth : goal.returns-in-PrintTruth
returns-in-PrintTruth g c =
    let h = g.C.Callees.handler c.args.callees.now in
    let a = activation_of c.args.activation.now in
    let vs = values_of c.args.values.now in
    let w = world_of c.args.state.now in
    subst (λ (one : Instr). Ends c.print_truth.result (λ _. vs) (world_of c.print_truth.new.state) (play h (r.instruction a one vs) w)) (sym c.in-PrintTruth.is)
    (c.print_truth.ensures a h)

pub returns-in-PrintByte : goal.returns-in-PrintByte
returns-in-PrintByte g c =
    let h = g.C.Callees.handler c.args.callees.now in
    let a = activation_of c.args.activation.now in
    let vs = values_of c.args.values.now in
    let w = world_of c.args.state.now in
    subst (λ (one : Instr). Ends c.say.result (λ _. vs) (world_of c.say.new.state) (play h (r.instruction a one vs) w)) (sym c.in-PrintByte.is)
    (c.say.ensures h)

pub returns-in-EndLine : goal.returns-in-EndLine
returns-in-EndLine g c =
    let h = g.C.Callees.handler c.args.callees.now in
    let a = activation_of c.args.activation.now in
    let vs = values_of c.args.values.now in
    let w = world_of c.args.state.now in
    subst (λ (one : Instr). Ends c.say-in-EndLine.result (λ _. vs) (world_of c.say-in-EndLine.new.state) (play h (r.instruction a one vs) w)) (sym c.in-EndLine.is)
    (c.say-in-EndLine.ensures h)

pub returns-in-Read : goal.returns-in-Read
returns-in-Read g c =
    let h = g.C.Callees.handler c.args.callees.now in
    let a = activation_of c.args.activation.now in
    let vs = values_of c.args.values.now in
    let w = world_of c.args.state.now in
    subst (λ (one : Instr). Ends c.read.result (λ _. values_of c.read.new.values) (world_of c.read.new.state) (play h (r.instruction a one vs) w)) (sym c.in-Read.is)
    (c.read.ensures h)

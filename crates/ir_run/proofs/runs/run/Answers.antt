use Rattle.std.proofs.Common.{◌≡◌, ◌∙◌, ◌-◌, Option, suc, sym, subst, ap, slice_get, arith}
use Rattle.std.specs.Option.{option_copied, option_map}
use Rattle.run_model.specs.Acts.{Outcome, Fine, Stop, play}
use Rattle.run_model.specs.Turns.{After, Again, Result, ticked, turns}
use Rattle.f77_semantics.specs.Values.{stored}
use Rattle.interp_steps.specs.Worlds.{world_of}
use Rattle.interp_steps.specs.Stops.{Stopped}
use Rattle.interp_steps.proofs.Plays.{weaker}
use Rattle.ir_core.specs.declared.block.Block.{Block}
use Rattle.ir_core.specs.Runs as r
use Rattle.ir_run.specs.declared.ends.Turn.{Turn}
use Rattle.ir_run.specs.Ends.{after_of}
use Rattle.ir_run.specs.Images.{activation_of, temporaries_of}
use Rattle.ir_run.proofs.Turning.{stepped, led}
use Rattle.ir_run.proofs.runs.run.Goals as goal

pub returns-in-Err : goal.returns-in-Err
returns-in-Err g c =
    let h = g.C.Callees.handler c.args.callees.now in
    let a = activation_of c.args.activation.now in
    let l = c.args.body.now in
    let w = world_of c.turns.state in
    let w1 = world_of c.tick.new.self in
    let s : r.Here = record { block = c.turns.at; temporaries = temporaries_of c.turns.values.temporaries.items } in
    let go = stepped h (r.body_turn a l) c.turns.more s in
    weaker c.in-Err.stop (λ reason. ticked w.left w go ≡ Stop reason w1) (λ reason. r.run_body h a l (world_of c.args.state.now) ≡ Stop reason w1) (λ reason e. sym c.turns.invariant ∙ e) (c.in-Err.ensures.begins go)

pub returns-in-Ok-Result : goal.returns-in-Ok-Result
returns-in-Ok-Result g c =
    let h = g.C.Callees.handler c.args.callees.now in
    let a = activation_of c.args.activation.now in
    let l = c.args.body.now in
    let w = world_of c.turns.state in
    let w1 = world_of c.tick.new.self in
    let w2 = world_of c.visit.new.state in
    let s : r.Here = record { block = c.turns.at; temporaries = temporaries_of c.turns.values.temporaries.items } in
    let told = subst (λ (t : Turn). play h (r.visit a (option_copied c.block_at.result) s.temporaries) w1 ≡ Fine (after_of t (temporaries_of c.visit.new.values.temporaries.items)) w2) c.in-Ok-Result.field-0-is c.in-Ok-Result.ensures in
    let o : Outcome (After r.Here) = Fine (Result (option_map stored c.in-Ok-Result.answer)) w2 in
    let taken = subst (λ (b : Option Block). play h (r.visit a b s.temporaries) w1 ≡ o) c.block_at.ensures told in
    sym c.turns.invariant ∙ led h (r.body_turn a l) c.turns.more s w w1 (c.in-Ok.ensures.begins (stepped h (r.body_turn a l) c.turns.more s)) o taken

pub returns-in-Err-visit : goal.returns-in-Err-visit
returns-in-Err-visit g c =
    let h = g.C.Callees.handler c.args.callees.now in
    let a = activation_of c.args.activation.now in
    let l = c.args.body.now in
    let w = world_of c.turns.state in
    let w1 = world_of c.tick.new.self in
    let w2 = world_of c.visit.new.state in
    let s : r.Here = record { block = c.turns.at; temporaries = temporaries_of c.turns.values.temporaries.items } in
    let taken = subst (λ (b : Option Block). Stopped c.in-Err-visit.stop (λ reason. play h (r.visit a b s.temporaries) w1 ≡ Stop reason w2)) c.block_at.ensures c.in-Err-visit.ensures in
    let begins = c.in-Ok.ensures.begins (stepped h (r.body_turn a l) c.turns.more s) in
    weaker c.in-Err-visit.stop (λ reason. play h (r.visit a (slice_get l.blocks c.turns.at) s.temporaries) w1 ≡ Stop reason w2) (λ reason. r.run_body h a l (world_of c.args.state.now) ≡ Stop reason w2)
    (λ reason e. sym c.turns.invariant ∙ led h (r.body_turn a l) c.turns.more s w w1 begins (Stop reason w2) e) taken

pub returns-then-more-eq0 : goal.returns-then-more-eq0
returns-then-more-eq0 g c =
    let h = g.C.Callees.handler c.args.callees.now in
    let a = activation_of c.args.activation.now in
    let l = c.args.body.now in
    let turn = r.body_turn a l in
    let w = world_of c.turns.state in
    let w1 = world_of c.tick.new.self in
    let w2 = world_of c.visit.new.state in
    let s : r.Here = record { block = c.turns.at; temporaries = temporaries_of c.turns.values.temporaries.items } in
    let s2 : r.Here = record { block = c.in-Ok-Again.next; temporaries = temporaries_of c.visit.new.values.temporaries.items } in
    let told = subst (λ (t : Turn). play h (r.visit a (option_copied c.block_at.result) s.temporaries) w1 ≡ Fine (after_of t s2.temporaries) w2) c.in-Ok-Again.field-0-is c.in-Ok-Again.ensures in
    let o : Outcome (After r.Here) = Fine (Again s2) w2 in
    let taken = subst (λ (b : Option Block). play h (r.visit a b s.temporaries) w1 ≡ o) c.block_at.ensures told in
    let next = led h turn c.turns.more s w w1 (c.in-Ok.ensures.begins (stepped h turn c.turns.more s)) o taken in
    sym c.turns.invariant ∙ (next ∙ ap (λ n. turns h turn n s2 w2) c.if-more-eq0.true)

pub turns-preserved : goal.turns-preserved
turns-preserved g c =
    let h = g.C.Callees.handler c.args.callees.now in
    let a = activation_of c.args.activation.now in
    let l = c.args.body.now in
    let turn = r.body_turn a l in
    let w = world_of c.turns.state in
    let w1 = world_of c.tick.new.self in
    let w2 = world_of c.visit.new.state in
    let s : r.Here = record { block = c.turns.at; temporaries = temporaries_of c.turns.values.temporaries.items } in
    let s2 : r.Here = record { block = c.in-Ok-Again.next; temporaries = temporaries_of c.visit.new.values.temporaries.items } in
    let told = subst (λ (t : Turn). play h (r.visit a (option_copied c.block_at.result) s.temporaries) w1 ≡ Fine (after_of t s2.temporaries) w2) c.in-Ok-Again.field-0-is c.in-Ok-Again.ensures in
    let o : Outcome (After r.Here) = Fine (Again s2) w2 in
    let taken = subst (λ (b : Option Block). play h (r.visit a b s.temporaries) w1 ≡ o) c.block_at.ensures told in
    let next = led h turn c.turns.more s w w1 (c.in-Ok.ensures.begins (stepped h turn c.turns.more s)) o taken in
    let n = c.turns.more in
    let some = c.if-more-eq0.false in
    let less : suc (n - 1) ≡ n = omega arith in
    ap (λ n. turns h turn n s2 w2) less ∙ (sym next ∙ c.turns.invariant)

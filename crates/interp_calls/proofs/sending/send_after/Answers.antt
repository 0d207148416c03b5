use Rattle.std.proofs.Common.{Result, subst, sym, ◌∙◌}
use Rattle.run_model.specs.Acts.{World, Outcome, Fine}
use Rattle.run_model.specs.Turns.{After}
use Rattle.f77_semantics.specs.Statements.{Here}
use Rattle.interp_steps.specs.Worlds.{world_of}
use Rattle.interp_turns.specs.declared.turn.Turn.{Turn}
use Rattle.interp_calls.specs.declared.halt.Halt.{Halt}
use Rattle.interp_calls.specs.Sending.{Sends}
use Rattle.interp_calls.proofs.Reaching.{whole_halt, sends_no_last}
use Rattle.interp_calls.proofs.sending.send_after.Goals as goal

pub returns-in-Err-send-2-clause-run : goal.returns-in-Err-send-2-clause-run
returns-in-Err-send-2-clause-run g c = λ view run w before sends.
    let a = g.O.Sink.written c.args.out.now in
    let onward : Turn → World → Outcome (After Here) = λ y. Fine (view y) in
    let v = world_of c.args.state.now in
    sends_no_last onward run w v (world_of c.send-in-Err.new.state) before a (g.O.Sink.written c.send-in-Err.new.out) c.in-Err.halt c.in-Err-send-2.fault (whole_halt c.in-Err.halt (sym c.is_broken.ensures ∙ c.if-is_broken.false))
    (subst (λ (r : Result Turn Halt). Sends r onward w v before a run) c.in-Err.is sends) (c.in-Err-send-2.ensures {u = tt}).run

use Rattle.std.proofs.Common.{List, ℕ, refl, subst, ap}
use Rattle.std.specs.Io.KnownBytes.{Appends}
use Rattle.rn_ports.specs.Sent.{AppendsPart}
use Rattle.interp_steps.specs.Worlds.{world_of}
use Rattle.interp_calls.specs.Sending.{nothing}
use Rattle.interp_calls.proofs.Reaching.{sends_none, sends_all, sends_part}
use Rattle.interp_calls.proofs.sending.send.Goals as goal

pub returns-then-is_empty-clause-run : goal.returns-then-is_empty-clause-run
returns-then-is_empty-clause-run g c = sends_none (world_of c.args.state.now) (g.O.Sink.written c.args.out.now) tt (λ _. nothing) nothing (λ sent. refl)

pub returns-in-Ok-clause-run : goal.returns-in-Ok-clause-run
returns-in-Ok-clause-run g c =
    let a = g.O.Sink.written c.args.out.now in
    let b = g.O.Sink.written c.write_whole.new.out in
    let w = world_of c.args.state.now in
    sends_all w (record w { out = c.clear.new.self.items }) a b (ap (λ (out : List ℕ). record w { out = out }) c.clear.ensures.items)
    (subst (λ (text : List ℕ). Appends a b text) c.as_slice.ensures.value (c.in-Ok.ensures {u = tt}).all)

pub returns-in-Err-clause-run : goal.returns-in-Err-clause-run
returns-in-Err-clause-run g c =
    let a = g.O.Sink.written c.args.out.now in
    let b = g.O.Sink.written c.write_whole.new.out in
    let w = world_of c.args.state.now in
    sends_part w w a b (subst (λ (text : List ℕ). AppendsPart a b text) c.as_slice.ensures.value (c.in-Err.ensures {u = tt}).front)

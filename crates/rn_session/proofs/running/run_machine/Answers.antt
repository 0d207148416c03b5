use Rattle.std.proofs.Common.{◌≡◌, ◌++◌, ◌∙◌, Bool, false, refl, ap, subst, ◌⊎◌}
use Rattle.rn_ports.specs.Sent.{AppendsPart}
use Rattle.rn_ports.proofs.Sending.{part_first, part_then}
use Rattle.rv_machine.specs.declared.outcome.Outcome.{Outcome}
use Rattle.rv_machine.specs.Lines.{within_line}
use Rattle.rv_machine.specs.Machine.{run, output}
use Rattle.rv_machine.specs.Kept.{state_of}
use Rattle.rn_session.specs.Replies.{begun, status_at, line_at}
use Rattle.rn_session.specs.declared.status.Status.TheVariants.{Ok as Done, WriteFault}
use Rattle.rn_session.proofs.Replied.{run_ended, run_broken}
use Rattle.rn_session.proofs.running.run_machine.Goals as goal

pub returns-in-Ok-clause-status : goal.returns-in-Ok-clause-status
returns-in-Ok-clause-status g c =
    let e = c.in-Ok.ensures {u = tt} in
    let s = state_of c.args.machine.now in
    let stands : c.in-Ok.outcome ≡ (run c.args.steps s).outcome = e.outcome ∙ ap (λ x. x.outcome) e.stands in
    let midway = g.O.Sink.written c.run_by_line.new.out in
    run_ended c.args.steps s c.tell.result (g.O.Sink.written c.args.out.now) midway (g.O.Sink.written c.tell.new.out) e.writes
    (subst (λ (o : Outcome). AppendsPart midway (g.O.Sink.written c.tell.new.out) (begun (within_line false (output c.args.steps s)) (line_at o))) stands
    (subst (λ (b : Bool). AppendsPart midway (g.O.Sink.written c.tell.new.out) (begun b (line_at c.in-Ok.outcome))) e.line c.tell.ensures.front))
    (subst (λ (o : Outcome). (c.tell.result ≡ status_at o) ⊎ (c.tell.result ≡ WriteFault) × (status_at o ≡ Done)) stands c.tell.ensures.status)

pub returns-in-Err-clause-status : goal.returns-in-Err-clause-status
returns-in-Err-clause-status g c = run_broken c.args.steps (state_of c.args.machine.now) WriteFault _ _ refl (c.in-Err.ensures {u = tt}).some c.run_by_line.ensures.front

pub returns-in-Ok-clause-front : goal.returns-in-Ok-clause-front
returns-in-Ok-clause-front g c =
    let e = c.in-Ok.ensures {u = tt} in
    let s = state_of c.args.machine.now in
    let stands : c.in-Ok.outcome ≡ (run c.args.steps s).outcome = e.outcome ∙ ap (λ x. x.outcome) e.stands in
    subst (λ (o : Outcome). AppendsPart (g.O.Sink.written c.args.out.now) (g.O.Sink.written c.tell.new.out) (output c.args.steps s ++ begun (within_line false (output c.args.steps s)) (line_at o))) stands
    (subst (λ (b : Bool). AppendsPart (g.O.Sink.written c.args.out.now) (g.O.Sink.written c.tell.new.out) (output c.args.steps s ++ begun b (line_at c.in-Ok.outcome))) e.line
    (part_then _ e.writes c.tell.ensures.front))

pub returns-in-Err-clause-front : goal.returns-in-Err-clause-front
returns-in-Err-clause-front g c = part_first _ c.run_by_line.ensures.front

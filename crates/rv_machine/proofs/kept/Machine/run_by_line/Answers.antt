use Rattle.std.proofs.Common.{ℕ, ◌+◌, List, subst, arith, sym, ap, ◌∙◌}
use Rattle.std.specs.Io.KnownBytes.{Appends}
use Rattle.rn_ports.proofs.Sending.{part_all}
use Rattle.rv_machine.specs.Machine.{State, output}
use Rattle.rv_machine.specs.Runs.{IsOver}
use Rattle.rv_machine.specs.Kept.{state_of}
use Rattle.rv_machine.proofs.Steps.{over_unless, stays, run-more, err_given, written_more, part_more, part_grows}
use Rattle.rv_machine.specs.Lines.{within_line}
use Rattle.rv_machine.proofs.Breaks.{line_more, some_more}
use Rattle.rv_machine.proofs.kept.Machine.run_by_line.Goals as goal

pub returns-then-not-is_running-clause-stands : goal.returns-then-not-is_running-clause-stands
returns-then-not-is_running-clause-stands g c =
    let i = c.loop-step.invariant in
    let o = subst (λ (x : State). IsOver x) i.stands (over_unless (state_of c.loop-step.self) (c.is_running.ensures.no c.if-not-is_running.true)) in
    i.stands ∙ sym (stays (state_of c.args.self.now) c.loop-step._step c.args.steps (omega arith) o).stands

pub returns-then-not-is_running-clause-writes : goal.returns-then-not-is_running-clause-writes
returns-then-not-is_running-clause-writes g c =
    let i = c.loop-step.invariant in
    let o = subst (λ (x : State). IsOver x) i.stands (over_unless (state_of c.loop-step.self) (c.is_running.ensures.no c.if-not-is_running.true)) in
    subst (λ (x : List ℕ). Appends (g.O.Sink.written c.args.out.now) (g.O.Sink.written c.loop-step.out) x)
    (sym (stays (state_of c.args.self.now) c.loop-step._step c.args.steps (omega arith) o).prints)
    i.writes

pub returns-then-not-is_running-clause-front : goal.returns-then-not-is_running-clause-front
returns-then-not-is_running-clause-front g c =
    let s = state_of c.args.self.now in
    part_grows (g.O.Sink.written c.args.out.now) (g.O.Sink.written c.loop-step.out) c.loop-step._step c.args.steps s (omega arith)
    (part_all (output c.loop-step._step s) c.loop-step.invariant.writes)

pub loop-step-preserved : goal.loop-step-preserved
loop-step-preserved g c =
    let i = c.loop-step.invariant in
    let s = state_of c.args.self.now in
    let m = state_of c.loop-step.self in
    let e = c.in_ok-step.ensures in
    record {
      stands = e.stands ∙ sym (run-more c.loop-step._step s m i.stands);
      writes = written_more (g.O.Sink.written c.args.out.now) (g.O.Sink.written c.loop-step.out) (g.O.Sink.written c.step.new.out) c.loop-step._step s m i.stands i.writes e.writes;
      line = line_more c.args.within.now c.loop-step.within c.step.new.within c.loop-step._step s m i.stands i.line e.line;
      later = omega (arith, i.later, e.cause.later);
    }

pub returns-in_err-step-clause-stopped : goal.returns-in_err-step-clause-stopped
returns-in_err-step-clause-stopped g c =
    let i = c.loop-step.invariant in
    let s = state_of c.args.self.now in
    let m = state_of c.loop-step.self in
    let e = c.in_err-step.ensures in
    err_given c.from_residual.result record {
      done = c.loop-step._step;
      fewer = omega arith;
      stands = e.stays ∙ i.stands;
      sent = part_more (g.O.Sink.written c.args.out.now) (g.O.Sink.written c.loop-step.out) (g.O.Sink.written c.step.new.out) c.loop-step._step s m i.stands i.writes e.front;
    }

pub returns-in_err-step-clause-front : goal.returns-in_err-step-clause-front
returns-in_err-step-clause-front g c =
    let i = c.loop-step.invariant in
    let s = state_of c.args.self.now in
    let m = state_of c.loop-step.self in
    let e = c.in_err-step.ensures in
    part_grows (g.O.Sink.written c.args.out.now) (g.O.Sink.written c.step.new.out) (c.loop-step._step + 1) c.args.steps s (omega arith)
    (part_more (g.O.Sink.written c.args.out.now) (g.O.Sink.written c.loop-step.out) (g.O.Sink.written c.step.new.out) c.loop-step._step s m i.stands i.writes e.front)

pub returns-then-not-is_running-clause-line : goal.returns-then-not-is_running-clause-line
returns-then-not-is_running-clause-line g c =
    let i = c.loop-step.invariant in
    let o = subst (λ (x : State). IsOver x) i.stands (over_unless (state_of c.loop-step.self) (c.is_running.ensures.no c.if-not-is_running.true)) in
    i.line ∙ sym (ap (within_line c.args.within.now) (stays (state_of c.args.self.now) c.loop-step._step c.args.steps (omega arith) o).prints)

pub returns-in_err-step-clause-some : goal.returns-in_err-step-clause-some
returns-in_err-step-clause-some g c =
    let i = c.loop-step.invariant in
    err_given c.from_residual.result
    (some_more c.loop-step._step c.args.steps (state_of c.args.self.now) (state_of c.loop-step.self) i.stands (omega arith) c.in_err-step.ensures.some)

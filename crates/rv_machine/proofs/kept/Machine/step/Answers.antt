use Rattle.std.proofs.Common.{◌≡◌, ℕ, ◌<◌, List, length, true, false, Some, None, ◌∙◌, sym, ap, subst}
use Rattle.std.specs.Io.KnownBytes.{Appends}
use Rattle.rn_ports.specs.Sent.{AppendsPart}
use Rattle.rv_isa.specs.declared.inst.Inst.TheVariants.{Ecall}
use Rattle.rv_machine.specs.Machine.{is_fetchable, fetched, step_prints}
use Rattle.rv_machine.specs.Kept.{state_of}
use Rattle.rv_machine.specs.Lines.{within_line}
use Rattle.rv_machine.proofs.Breaks.{line_none}
use Rattle.rv_machine.proofs.Steps.{step_fetched, step_unmapped, writes_none, on_ok, on_err}
use Rattle.rv_machine.proofs.kept.Machine.step.Goals as goal

pub returns-then-not-is_fetchable-clause-stands : goal.returns-then-not-is_fetchable-clause-stands
returns-then-not-is_fetchable-clause-stands g c =
    let s = state_of c.args.self.now in
    let f : is_fetchable s ≡ false = sym c.is_fetchable.ensures ∙ c.if-not-is_fetchable.true in
    c.trap.ensures ∙ sym (step_unmapped s c.requires f).stands

pub returns-then-not-is_fetchable-clause-writes : goal.returns-then-not-is_fetchable-clause-writes
returns-then-not-is_fetchable-clause-writes g c =
    let s = state_of c.args.self.now in
    let f : is_fetchable s ≡ false = sym c.is_fetchable.ensures ∙ c.if-not-is_fetchable.true in
    writes_none (g.O.Sink.written c.args.out.now) (step_prints s) (step_unmapped s c.requires f).prints

pub returns-in-Some-Ecall-clause-stands : goal.returns-in-Some-Ecall-clause-stands
returns-in-Some-Ecall-clause-stands g c =
    let s = state_of c.args.self.now in
    let f : is_fetchable s ≡ true = sym c.is_fetchable.ensures ∙ c.if-not-is_fetchable.false in
    let o : fetched s ≡ Some Ecall = sym c.fetch.ensures.value ∙ c.in-Some-Ecall.is ∙ ap Some c.in-Some-Ecall.field-0-is in
    on_ok c.call.result (λ e. e ∙ sym (step_fetched s _ c.requires f o).stands) c.call.ensures.stands

pub returns-in-Some-Ecall-clause-writes : goal.returns-in-Some-Ecall-clause-writes
returns-in-Some-Ecall-clause-writes g c =
    let s = state_of c.args.self.now in
    let f : is_fetchable s ≡ true = sym c.is_fetchable.ensures ∙ c.if-not-is_fetchable.false in
    let o : fetched s ≡ Some Ecall = sym c.fetch.ensures.value ∙ c.in-Some-Ecall.is ∙ ap Some c.in-Some-Ecall.field-0-is in
    on_ok c.call.result (subst (λ (x : List ℕ). Appends (g.O.Sink.written c.args.out.now) (g.O.Sink.written c.call.new.out) x) (sym (step_fetched s _ c.requires f o).prints)) c.call.ensures.writes

pub returns-in-Some-Ecall-clause-front : goal.returns-in-Some-Ecall-clause-front
returns-in-Some-Ecall-clause-front g c =
    let s = state_of c.args.self.now in
    let f : is_fetchable s ≡ true = sym c.is_fetchable.ensures ∙ c.if-not-is_fetchable.false in
    let o : fetched s ≡ Some Ecall = sym c.fetch.ensures.value ∙ c.in-Some-Ecall.is ∙ ap Some c.in-Some-Ecall.field-0-is in
    on_err c.call.result (subst (λ (x : List ℕ). AppendsPart (g.O.Sink.written c.args.out.now) (g.O.Sink.written c.call.new.out) x) (sym (step_fetched s _ c.requires f o).prints)) c.call.ensures.front

pub returns-in-None-clause-stands : goal.returns-in-None-clause-stands
returns-in-None-clause-stands g c =
    let s = state_of c.args.self.now in
    let f : is_fetchable s ≡ true = sym c.is_fetchable.ensures ∙ c.if-not-is_fetchable.false in
    let o : fetched s ≡ None = sym c.fetch.ensures.value ∙ c.in-None.is in
    c.trap-in-None.ensures ∙ sym (step_fetched s _ c.requires f o).stands

pub returns-in-None-clause-writes : goal.returns-in-None-clause-writes
returns-in-None-clause-writes g c =
    let s = state_of c.args.self.now in
    let f : is_fetchable s ≡ true = sym c.is_fetchable.ensures ∙ c.if-not-is_fetchable.false in
    let o : fetched s ≡ None = sym c.fetch.ensures.value ∙ c.in-None.is in
    writes_none (g.O.Sink.written c.args.out.now) (step_prints s) (step_fetched s _ c.requires f o).prints

pub returns-in-Some-clause-stands : goal.returns-in-Some-clause-stands
returns-in-Some-clause-stands g c =
    let s = state_of c.args.self.now in
    let f : is_fetchable s ≡ true = sym c.is_fetchable.ensures ∙ c.if-not-is_fetchable.false in
    let o : fetched s ≡ Some c.in-Some.inst = sym c.fetch.ensures.value ∙ c.in-Some.is in
    c.execute.ensures.stands ∙ sym (step_fetched s _ c.requires f o).stands

pub returns-in-Some-clause-writes : goal.returns-in-Some-clause-writes
returns-in-Some-clause-writes g c =
    let s = state_of c.args.self.now in
    let f : is_fetchable s ≡ true = sym c.is_fetchable.ensures ∙ c.if-not-is_fetchable.false in
    let o : fetched s ≡ Some c.in-Some.inst = sym c.fetch.ensures.value ∙ c.in-Some.is in
    writes_none (g.O.Sink.written c.args.out.now) (step_prints s) ((step_fetched s _ c.requires f o).prints ∙ c.execute.ensures.quiet)

pub returns-then-not-is_fetchable-clause-line : goal.returns-then-not-is_fetchable-clause-line
returns-then-not-is_fetchable-clause-line g c =
    let s = state_of c.args.self.now in
    let f : is_fetchable s ≡ false = sym c.is_fetchable.ensures ∙ c.if-not-is_fetchable.true in
    line_none c.args.within.now (step_prints s) (step_unmapped s c.requires f).prints

pub returns-in-Some-Ecall-clause-line : goal.returns-in-Some-Ecall-clause-line
returns-in-Some-Ecall-clause-line g c =
    let s = state_of c.args.self.now in
    let f : is_fetchable s ≡ true = sym c.is_fetchable.ensures ∙ c.if-not-is_fetchable.false in
    let o : fetched s ≡ Some Ecall = sym c.fetch.ensures.value ∙ c.in-Some-Ecall.is ∙ ap Some c.in-Some-Ecall.field-0-is in
    on_ok c.call.result (λ e. e ∙ sym (ap (within_line c.args.within.now) (step_fetched s _ c.requires f o).prints)) c.call.ensures.line

pub returns-in-Some-Ecall-clause-some : goal.returns-in-Some-Ecall-clause-some
returns-in-Some-Ecall-clause-some g c =
    let s = state_of c.args.self.now in
    let f : is_fetchable s ≡ true = sym c.is_fetchable.ensures ∙ c.if-not-is_fetchable.false in
    let o : fetched s ≡ Some Ecall = sym c.fetch.ensures.value ∙ c.in-Some-Ecall.is ∙ ap Some c.in-Some-Ecall.field-0-is in
    on_err c.call.result (subst (λ (x : List ℕ). 0 < length x) (sym (step_fetched s _ c.requires f o).prints)) c.call.ensures.some

pub returns-in-None-clause-line : goal.returns-in-None-clause-line
returns-in-None-clause-line g c =
    let s = state_of c.args.self.now in
    let f : is_fetchable s ≡ true = sym c.is_fetchable.ensures ∙ c.if-not-is_fetchable.false in
    let o : fetched s ≡ None = sym c.fetch.ensures.value ∙ c.in-None.is in
    line_none c.args.within.now (step_prints s) (step_fetched s _ c.requires f o).prints

pub returns-in-Some-clause-line : goal.returns-in-Some-clause-line
returns-in-Some-clause-line g c =
    let s = state_of c.args.self.now in
    let f : is_fetchable s ≡ true = sym c.is_fetchable.ensures ∙ c.if-not-is_fetchable.false in
    let o : fetched s ≡ Some c.in-Some.inst = sym c.fetch.ensures.value ∙ c.in-Some.is in
    line_none c.args.within.now (step_prints s) ((step_fetched s _ c.requires f o).prints ∙ c.execute.ensures.quiet)

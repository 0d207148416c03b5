use Rattle.std.proofs.Common.{◌≡◌, ℕ, List, Err, refl, sym, ap, ◌∙◌, subst, ◌⊎◌}
use Rattle.f77_tree.specs.declared.fault.SourceFault.{SourceFault}
use Rattle.f77_tree.specs.declared.fault.Refused.{Refused}
use Rattle.rn_session.specs.Texts.{Explains}
use Rattle.rn_ports.specs.Causes.{Rose}
use Rattle.rv_machine.specs.Machine.{run}
use Rattle.rv_machine.specs.Kept.{state_of}
use Rattle.rn_session.specs.Replies.{fault_reply, run_reply}
use Rattle.rn_session.specs.Answers.{StartsOn, too_long, faulty, ran, input_limit}
use Rattle.rn_session.specs.declared.status.Status.TheVariants.{SourceFault as Faulty, OutOfMemory}
use Rattle.rn_session.proofs.Exactly.{exact_long, exact_fault, exact_run}
use Rattle.rn_session.proofs.Replied.{fault_answered, fault_complete, run_answered, run_complete, own_or_fault, run_noted, source_said}
use Rattle.rn_session.proofs.Told.{told}
use Rattle.rn_session.proofs.top.rn_top.Goals as goal

-- ---- an input above the limit

pub returns-in-Err-TooLong-clause-answer : goal.returns-in-Err-TooLong-clause-answer
returns-in-Err-TooLong-clause-answer g c =
    let e = c.refuse_source.ensures in
    let long = (c.in-Err-TooLong.ensures {u = tt}).long (ap Err c.in-Err-TooLong.field-0-is) in
    fault_answered c.in-Some.steps c.long_fault.result (sym c.steps.ensures ∙ c.in-Some.is) (too_long long (ap fault_reply c.long_fault.ensures)) e.status e.front e.text

pub returns-in-Err-TooLong-clause-complete : goal.returns-in-Err-TooLong-clause-complete
returns-in-Err-TooLong-clause-complete g c =
    let e = c.refuse_source.ensures in
    let long = (c.in-Err-TooLong.ensures {u = tt}).long (ap Err c.in-Err-TooLong.field-0-is) in
    λ read written. fault_complete c.args.words.now c.refuse_source.result c.in-Some.steps c.long_fault.result (sym c.steps.ensures ∙ c.in-Some.is) (too_long long (ap fault_reply c.long_fault.ensures)) e.status

pub returns-in-Err-TooLong-clause-exactly : goal.returns-in-Err-TooLong-clause-exactly
returns-in-Err-TooLong-clause-exactly g c =
    let a = c.answers_law.ensures in
    let long = (c.in-Err-TooLong.ensures {u = tt}).long (ap Err c.in-Err-TooLong.field-0-is) in
    let e = subst (λ (f : SourceFault). (c.refuse_source.result ≡ Faulty f) ⊎ (c.refuse_source.result ≡ OutOfMemory)) c.long_fault.ensures c.refuse_source.ensures.status in
    λ read written filled. exact_long input_limit (a.fault input_limit) (a.never_both input_limit) c.args.words.now (g.I.Source.left c.args.input.now) c.in-Some.steps c.refuse_source.result
    (sym c.steps.ensures ∙ c.in-Some.is) long e filled

-- ---- a text that isn't thin

pub returns-in-Err-Fault-clause-answer : goal.returns-in-Err-Fault-clause-answer
returns-in-Err-Fault-clause-answer g c =
    let e = c.refuse_source-in-Err-Fault.ensures in
    let read = c.in-Ok.ensures {u = tt} in
    let thin = subst (λ (t : List ℕ). Explains c.in-Err-Fault.field-0 t) c.as_slice.ensures.value (c.in-Err-Fault.ensures {u = tt}).refused in
    let fault = subst (λ (r : Refused). Explains r c.in-Ok.text.items) c.in-Err-Fault.field-0-is thin in
    fault_answered c.in-Some.steps c.in-Err-Fault.fault (sym c.steps.ensures ∙ c.in-Some.is) (faulty c.in-Ok.text.items read.all read.within c.in-Err-Fault.fault fault refl) e.status e.front e.text

pub returns-in-Err-Fault-clause-complete : goal.returns-in-Err-Fault-clause-complete
returns-in-Err-Fault-clause-complete g c =
    let e = c.refuse_source-in-Err-Fault.ensures in
    let read = c.in-Ok.ensures {u = tt} in
    let thin = subst (λ (t : List ℕ). Explains c.in-Err-Fault.field-0 t) c.as_slice.ensures.value (c.in-Err-Fault.ensures {u = tt}).refused in
    let fault = subst (λ (r : Refused). Explains r c.in-Ok.text.items) c.in-Err-Fault.field-0-is thin in
    λ sourced written. fault_complete c.args.words.now c.refuse_source-in-Err-Fault.result c.in-Some.steps c.in-Err-Fault.fault (sym c.steps.ensures ∙ c.in-Some.is)
    (faulty c.in-Ok.text.items read.all read.within c.in-Err-Fault.fault fault refl) e.status

pub returns-in-Err-Fault-clause-exactly : goal.returns-in-Err-Fault-clause-exactly
returns-in-Err-Fault-clause-exactly g c =
    let a = c.answers_law.ensures in
    let read = c.in-Ok.ensures {u = tt} in
    let thin = subst (λ (t : List ℕ). Explains c.in-Err-Fault.field-0 t) c.as_slice.ensures.value (c.in-Err-Fault.ensures {u = tt}).refused in
    let fault = subst (λ (r : Refused). Explains r c.in-Ok.text.items) c.in-Err-Fault.field-0-is thin in
    λ read_all written filled. exact_fault input_limit (a.fault input_limit) (a.never_both input_limit) c.args.words.now (g.I.Source.left c.args.input.now) c.in-Ok.text.items c.in-Some.steps
    c.refuse_source-in-Err-Fault.result c.in-Err-Fault.fault (sym c.steps.ensures ∙ c.in-Some.is) read.all read.within fault c.refuse_source-in-Err-Fault.ensures.status filled

-- ---- a run

pub returns-in-Ok-machine_of-clause-answer : goal.returns-in-Ok-machine_of-clause-answer
returns-in-Ok-machine_of-clause-answer g c =
    let e = c.run_machine.ensures in
    let read = c.in-Ok.ensures {u = tt} in
    let s = state_of c.in-Ok-machine_of.machine in
    let started = subst (λ (t : List ℕ). StartsOn t s) c.as_slice.ensures.value (c.in-Ok-machine_of.ensures {u = tt}).starts in
    run_answered c.in-Some.steps s (sym c.steps.ensures ∙ c.in-Some.is) (ran c.in-Ok.text.items read.all read.within (record { start = s; starts = started; replied = refl })) e.status e.front e.text

pub returns-in-Ok-machine_of-clause-complete : goal.returns-in-Ok-machine_of-clause-complete
returns-in-Ok-machine_of-clause-complete g c =
    let e = c.run_machine.ensures in
    let read = c.in-Ok.ensures {u = tt} in
    let s = state_of c.in-Ok-machine_of.machine in
    let started = subst (λ (t : List ℕ). StartsOn t s) c.as_slice.ensures.value (c.in-Ok-machine_of.ensures {u = tt}).starts in
    λ sourced written. run_complete c.args.words.now c.run_machine.result (g.O.Sink.written c.args.out.now) (g.O.Sink.written c.run_machine.new.out) (Rose (g.O.Sink.faults c.args.out.now) (g.O.Sink.faults c.run_machine.new.out)) c.in-Some.steps s (sym c.steps.ensures ∙ c.in-Some.is)
    (ran c.in-Ok.text.items read.all read.within (record { start = s; starts = started; replied = refl })) e.status e.write.rose written

pub returns-in-Ok-machine_of-clause-exactly : goal.returns-in-Ok-machine_of-clause-exactly
returns-in-Ok-machine_of-clause-exactly g c =
    let a = c.answers_law.ensures in
    let e = c.run_machine.ensures in
    let read = c.in-Ok.ensures {u = tt} in
    let s = state_of c.in-Ok-machine_of.machine in
    let started = subst (λ (t : List ℕ). StartsOn t s) c.as_slice.ensures.value (c.in-Ok-machine_of.ensures {u = tt}).starts in
    λ read_all written filled. exact_run input_limit (a.fault input_limit) (a.never_both input_limit) c.args.words.now (g.I.Source.left c.args.input.now) c.in-Ok.text.items c.in-Some.steps c.run_machine.result s
    (g.O.Sink.written c.args.out.now) (g.O.Sink.written c.run_machine.new.out) (sym c.steps.ensures ∙ c.in-Some.is) read.all read.within started e.status written

pub returns-in-Ok-machine_of-clause-source : goal.returns-in-Ok-machine_of-clause-source
returns-in-Ok-machine_of-clause-source g c =
    let e = c.run_machine.ensures in
    let read = c.in-Ok.ensures {u = tt} in
    let s = state_of c.in-Ok-machine_of.machine in
    let started = subst (λ (t : List ℕ). StartsOn t s) c.as_slice.ensures.value (c.in-Ok-machine_of.ensures {u = tt}).starts in
    source_said c.args.words.now (g.I.Source.left c.args.input.now) c.in-Ok.text.items c.run_machine.result (g.O.Sink.written c.args.out.now) (g.O.Sink.written c.run_machine.new.out) c.in-Some.steps
    (sym c.steps.ensures ∙ c.in-Some.is) read.all
    (told c.in-Ok.text.items s started c.in-Some.steps c.run_machine.result (g.O.Sink.written c.args.out.now) (g.O.Sink.written c.run_machine.new.out) e.status e.done)

pub returns-in-Ok-machine_of-clause-noted : goal.returns-in-Ok-machine_of-clause-noted
returns-in-Ok-machine_of-clause-noted g c =
    let s = state_of c.in-Ok-machine_of.machine in
    run_noted (run c.in-Some.steps s).outcome c.run_machine.result (g.T.Tally.notes c.args.tally.now) (g.T.Tally.notes c.machine_of.new.tally)
    (own_or_fault (run_reply c.in-Some.steps s) (g.O.Sink.written c.args.out.now) (g.O.Sink.written c.run_machine.new.out) c.run_machine.result c.run_machine.ensures.status) (c.in-Ok-machine_of.ensures {u = tt}).noted

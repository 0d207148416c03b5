-- What is answered where a reply was written.
use Rattle.std.proofs.Common.{◌≡◌, ℕ, ◌<◌, List, [], ◌++◌, length, Some, None, refl, sym, ap, subst, arith, ◌⊎◌, inl, inr}
use Rattle.std.specs.Prelude.{IfSome}
use Rattle.std.specs.Option.{option_zip}
use Rattle.std.specs.Io.KnownBytes.{Appends}
use Rattle.std.specs.declared.option.Option.{Option}
use Rattle.std.proofs.KnownBytes.{Appends-trans}
use Rattle.rn_ports.specs.Sent.{AppendsPart}
use Rattle.rn_ports.specs.declared.ports.Kind.{Kind}
use Rattle.f77_tree.specs.declared.fault.SourceFault.{SourceFault}
use Rattle.rv_machine.specs.declared.outcome.Outcome.{Outcome}
use Rattle.rv_machine.specs.declared.outcome.Outcome.TheVariants.{Running, Halted, Trap}
use Rattle.rv_machine.specs.Machine.{State, run, output}
use Rattle.rn_session.specs.declared.status.Status.{Status}
use Rattle.rn_session.specs.declared.status.Status.TheVariants.{Ok as Done, SourceFault as Faulty, WriteFault, OutOfMemory}
use Rattle.rn_session.specs.Words.{steps_of}
use Rattle.rn_session.specs.Statuses.{refusal_text}
use Rattle.rn_session.specs.Replies.{Reply, status_at, line_at, behind, run_reply, fault_reply, AppendsLine, MayEnd, own, in_line, in_output}
use Rattle.rn_session.specs.Sources.{SaysOfSource}
use Rattle.rn_session.specs.Answers.{MayReply, MayAnswer, replied, out_of_memory, Answered, IsComplete, without_memory, with_reply, compiled, Noted}

-- a line without an output
line_alone : {old new : Option (List ℕ)} {line : List ℕ} → AppendsPart old new line → AppendsLine old new [] line
line_alone p = record { front = p.sent.front; rest = p.rest; cut = p.sent.whole; grew = p.sent.grew }

-- a fault was refused with its line, or memory ran out for it
pub fault_answered : {limit : ℕ} {words : List (List ℕ)} {left : Option (List ℕ)} {status : Status} {old new : Option (List ℕ)} {rose : Type 0}
    (steps : ℕ) (fault : SourceFault) → steps_of words ≡ Some steps → MayReply limit steps left (fault_reply fault) → (status ≡ Faulty fault) ⊎ (status ≡ OutOfMemory)
    → AppendsPart old new (refusal_text status) → (¬ rose → Appends old new (refusal_text status)) → Answered limit words left status old new rose
fault_answered {limit = limit} {words = words} {left = left} {status = status} {old = old} {new = new} steps fault s m e front whole = record {
  text = refusal_text status;
  may = may e;
  front = front;
  whole = whole;
}
  where
    may : (status ≡ Faulty fault) ⊎ (status ≡ OutOfMemory) → MayAnswer limit words left old new status (refusal_text status)
    may (inl e) = replied steps (fault_reply fault) s m (own e (line_alone (subst (λ x. AppendsPart old new (refusal_text x)) e front))) (ap refusal_text e)
    may (inr e) = out_of_memory e (ap refusal_text e)

-- the reply of a run was written, or a front of it
pub run_answered : {limit : ℕ} {words : List (List ℕ)} {left : Option (List ℕ)} {status : Status} {old new : Option (List ℕ)} {rose : Type 0}
    (steps : ℕ) (start : State) → steps_of words ≡ Some steps → MayReply limit steps left (run_reply steps start) → MayEnd (run_reply steps start) old new status
    → AppendsPart old new ((run_reply steps start).output ++ (run_reply steps start).line) → (¬ rose → Appends old new ((run_reply steps start).output ++ (run_reply steps start).line))
    → Answered limit words left status old new rose
run_answered steps start s m e front whole = record { text = _; may = replied steps (run_reply steps start) s m e refl; front = front; whole = whole }

-- ---- how a run's reply is written

-- a line behind an output that was written
line_behind : (old mid new : Option (List ℕ)) {output line : List ℕ} → Appends old mid output → AppendsPart mid new line → AppendsLine old new output line
line_behind old mid new {output = output} all p = record { front = p.sent.front; rest = p.rest; cut = p.sent.whole; grew = Appends-trans old mid new output p.sent.front all p.sent.grew }

pub run_ended : (steps : ℕ) (start : State) (status : Status) (old mid new : Option (List ℕ)) → Appends old mid (output steps start) → AppendsPart mid new (behind (output steps start) (line_at (run steps start).outcome))
    → (status ≡ status_at (run steps start).outcome) ⊎ (status ≡ WriteFault) × (status_at (run steps start).outcome ≡ Done) → MayEnd (run_reply steps start) old new status
run_ended steps start status old mid new all part (inl e) = own e (line_behind old mid new all part)
run_ended steps start status old mid new all part (inr e) = in_line e.0 e.1 (line_behind old mid new all part)

pub run_broken : (steps : ℕ) (start : State) (status : Status) (old new : Option (List ℕ)) → status ≡ WriteFault → 0 < length (output steps start) → AppendsPart old new (output steps start) → MayEnd (run_reply steps start) old new status
run_broken steps start status old new e some part = in_output e (λ none. let z = ap length none in omega (arith, some, z)) part

-- ---- what is answered

-- the reply's own status, or the one of a sink that failed
pub own_or_fault : (reply : Reply) (old new : Option (List ℕ)) (status : Status) → MayEnd reply old new status → (status ≡ reply.status) ⊎ (status ≡ WriteFault)
own_or_fault reply old new status (own e w) = inl e
own_or_fault reply old new status (in_line e d w) = inr e
own_or_fault reply old new status (in_output e f w) = inr e

-- one note, whatever the run came to
pub run_noted : (o : Outcome) (status : Status) (old new : List (Kind × List ℕ)) → (status ≡ status_at o) ⊎ (status ≡ WriteFault) → new ≡ old ++ compiled → Noted status old new
run_noted o status old new (inr e) n = subst (λ s. Noted s old new) (sym e) n
run_noted Running status old new (inl e) n = subst (λ s. Noted s old new) (sym e) n
run_noted (Halted k) status old new (inl e) n = subst (λ s. Noted s old new) (sym e) n
run_noted (Trap pc cause) status old new (inl e) n = subst (λ s. Noted s old new) (sym e) n

pub fault_complete : {limit : ℕ} (words : List (List ℕ)) {left : Option (List ℕ)} (status : Status)
    (steps : ℕ) (fault : SourceFault) → steps_of words ≡ Some steps → MayReply limit steps left (fault_reply fault) → (status ≡ Faulty fault) ⊎ (status ≡ OutOfMemory)
    → IfSome (steps_of words) (λ n. IsComplete limit n left status)
fault_complete {limit = limit} words {left = left} status steps fault s m e = subst (λ o. IfSome o (λ n. IsComplete limit n left status)) (sym s) (go e)
  where
    go : (status ≡ Faulty fault) ⊎ (status ≡ OutOfMemory) → IsComplete limit steps left status
    go (inl e) = with_reply (fault_reply fault) m e
    go (inr e) = without_memory e

pub run_complete : {limit : ℕ} (words : List (List ℕ)) {left : Option (List ℕ)} (status : Status) (old new : Option (List ℕ)) (rose : Type 0)
    (steps : ℕ) (start : State) → steps_of words ≡ Some steps → MayReply limit steps left (run_reply steps start) → MayEnd (run_reply steps start) old new status
    → (status ≡ WriteFault → rose) → ¬ rose → IfSome (steps_of words) (λ n. IsComplete limit n left status)
run_complete {limit = limit} words {left = left} status old new rose steps start s m e caused fine =
    subst (λ o. IfSome o (λ n. IsComplete limit n left status)) (sym s) (go (own_or_fault (run_reply steps start) old new status e))
  where
    go : (status ≡ (run_reply steps start).status) ⊎ (status ≡ WriteFault) → IsComplete limit steps left status
    go (inl e) = with_reply (run_reply steps start) m e
    go (inr e) = absurd (fine (caused e))

-- what is said of an input that is told and of words in the table
pub source_said : (words : List (List ℕ)) (left : Option (List ℕ)) (bytes : List ℕ) (status : Status) (old new : Option (List ℕ)) (steps : ℕ)
    → steps_of words ≡ Some steps → IfSome left (λ known. bytes ≡ known) → SaysOfSource status steps bytes old new
    → IfSome (option_zip (steps_of words) left) (λ asked. SaysOfSource status asked.0 asked.1 old new)
source_said words None bytes status old new steps s k h = subst (λ o. IfSome (option_zip o None) (λ asked. SaysOfSource status asked.0 asked.1 old new)) (sym s) tt
source_said words (Some known) bytes status old new steps s k h =
    subst (λ o. IfSome (option_zip o (Some known)) (λ asked. SaysOfSource status asked.0 asked.1 old new)) (sym s) (subst (λ b. SaysOfSource status steps b old new) k h)

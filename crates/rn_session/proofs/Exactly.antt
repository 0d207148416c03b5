-- Which status comes to an input, where it is no fault of a port and no want of memory.
use Rattle.std.proofs.Common.{◌≡◌, ◌≢◌, ◌↔◌, ℕ, ◌<◌, ◌≤◌, List, length, Some, None, refl, sym, ap, ◌∙◌, subst, ◌⊎◌, inl, inr}
use Rattle.std.specs.Prelude.{IfSome}
use Rattle.std.specs.Option.{option_zip}
use Rattle.std.specs.declared.option.Option.{Option}
use Rattle.f77_tree.specs.declared.fault.SourceFault.{SourceFault}
use Rattle.rv_machine.specs.declared.outcome.Outcome.{Outcome}
use Rattle.rv_machine.specs.declared.outcome.Outcome.TheVariants.{Running, Halted, Trap}
use Rattle.rv_machine.specs.declared.outcome.TrapCause.{TrapCause}
use Rattle.rv_machine.specs.Machine.{State, run}
use Rattle.rn_session.specs.declared.status.Status.{Status}
use Rattle.rn_session.specs.declared.status.Status.TheVariants.{Ok as Done, SourceFault as Faulty, WriteFault, OutOfMemory, StepsSpent, Trapped}
use Rattle.rn_session.specs.Words.{steps_of}
use Rattle.rn_session.specs.Texts.{IsTextFault}
use Rattle.rn_session.specs.Replies.{status_at, run_reply, MayEnd}
use Rattle.rn_session.specs.Answers.{StartsOn, long_fault}
use Rattle.rn_session.specs.Exact.{HasFault, of_length, of_text, IsProgramText, HasHalted, IsExact}
use Rattle.rn_session.proofs.Replied.{own_or_fault}

-- where the words ask for steps, and the source tells its bytes
all_asked : (words : List (List ℕ)) (left : Option (List ℕ)) (steps : ℕ) (P : ℕ → List ℕ → Type 0) → steps_of words ≡ Some steps → IfSome left (P steps) → IfSome (option_zip (steps_of words) left) (λ asked. P asked.0 asked.1)
all_asked words None steps P e h = subst (λ o. IfSome (option_zip o None) (λ asked. P asked.0 asked.1)) (sym e) tt
all_asked words (Some bytes) steps P e h = subst (λ o. IfSome (option_zip o (Some bytes)) (λ asked. P asked.0 asked.1)) (sym e) h

-- ---- statuses and outcomes

same_fault : (f g : SourceFault) → Faulty f ≡ Faulty g → f ≡ g
same_fault f g e = cc

not_faulty : (o : Outcome) (f : SourceFault) → status_at o ≡ Faulty f → ⊥
not_faulty Running f e = cc
not_faulty (Halted k) f e = cc
not_faulty (Trap pc cause) f e = cc

done_is : (o : Outcome) (status : Status) → status ≡ status_at o → (status ≡ Done) ↔ HasHalted o
done_is Running status e = (λ d. let z : Done ≡ StepsSpent = sym d ∙ e in cc, λ h. absurd h)
done_is (Halted k) status e = (λ d. tt, λ h. e)
done_is (Trap pc cause) status e = (λ d. let z : Done ≡ Trapped pc cause = sym d ∙ e in cc, λ h. absurd h)

spent_is : (o : Outcome) (status : Status) → status ≡ status_at o → (status ≡ StepsSpent) ↔ (o ≡ Running)
spent_is o status e = (λ s. to o (sym e ∙ s), λ r. e ∙ ap status_at r)
  where
    to : (o : Outcome) → status_at o ≡ StepsSpent → o ≡ Running
    to Running s = refl
    to (Halted k) s = absurd cc
    to (Trap pc cause) s = absurd cc

trapped_is : (o : Outcome) (status : Status) → status ≡ status_at o → (pc : ℕ) (cause : TrapCause) → (status ≡ Trapped pc cause) ↔ (o ≡ Trap pc cause)
trapped_is o status e pc cause = (λ s. to o (sym e ∙ s), λ r. e ∙ ap status_at r)
  where
    to : (o : Outcome) → status_at o ≡ Trapped pc cause → o ≡ Trap pc cause
    to Running s = absurd cc
    to (Halted k) s = absurd cc
    to (Trap p c) s = cc

-- ---- answers

module _ (limit : ℕ)
    (one : (bytes : List ℕ) (a b : SourceFault) → HasFault limit bytes a → HasFault limit bytes b → a ≡ b)
    (never_both : (bytes : List ℕ) (fault : SourceFault) → IsProgramText limit bytes → HasFault limit bytes fault → ⊥) where
  by_fault : (steps : ℕ) (bytes : List ℕ) (status : Status) (fault : SourceFault) → HasFault limit bytes fault → status ≡ Faulty fault → IsExact limit steps bytes status
  by_fault steps bytes status fault h e = record {
    fault = λ f. (λ s. subst (HasFault limit bytes) (same_fault fault f (sym e ∙ s)) h, λ k. e ∙ ap Faulty (one bytes fault f h k));
    program = λ none. absurd (none fault e);
    ran = λ p. absurd (never_both bytes fault p h);
  }

  by_run : (steps : ℕ) (bytes : List ℕ) (status : Status) (start : State) → IsProgramText limit bytes → StartsOn bytes start → status ≡ status_at (run steps start).outcome → IsExact limit steps bytes status
  by_run steps bytes status start p starts e = record {
    fault = λ f. (λ s. absurd (not_faulty (run steps start).outcome f (sym e ∙ s)), λ k. absurd (never_both bytes f p k));
    program = λ none. p;
    ran = λ q. record {
      start = start;
      starts = starts;
      done = done_is (run steps start).outcome status e;
      spent = spent_is (run steps start).outcome status e;
      trapped = trapped_is (run steps start).outcome status e;
    };
  }

  -- a fault was found, and memory was there to tell it
  told_fault : (status : Status) (fault : SourceFault) → (status ≡ Faulty fault) ⊎ (status ≡ OutOfMemory) → status ≢ OutOfMemory → status ≡ Faulty fault
  told_fault status fault (inl e) filled = e
  told_fault status fault (inr e) filled = absurd (filled e)

  pub exact_long : (words : List (List ℕ)) (left : Option (List ℕ)) (steps : ℕ) (status : Status) → steps_of words ≡ Some steps → IfSome left (λ bytes. limit < length bytes) →
      (status ≡ Faulty (long_fault limit)) ⊎ (status ≡ OutOfMemory) → status ≢ OutOfMemory → IfSome (option_zip (steps_of words) left) (λ asked. IsExact limit asked.0 asked.1 status)
  exact_long words left steps status s long e filled = all_asked words left steps (λ steps bytes. IsExact limit steps bytes status) s (go left long)
    where
      go : (left : Option (List ℕ)) → IfSome left (λ bytes. limit < length bytes) → IfSome left (λ bytes. IsExact limit steps bytes status)
      go None h = tt
      go (Some bytes) h = by_fault steps bytes status (long_fault limit) (of_length h refl) (told_fault status (long_fault limit) e filled)

  -- an input that is told is the one that was read
  read_all : (left : Option (List ℕ)) (bytes : List ℕ) (P : List ℕ → Type 0) → IfSome left (λ known. bytes ≡ known) → P bytes → IfSome left P
  read_all None bytes P e h = tt
  read_all (Some known) bytes P e h = subst P e h

  pub exact_fault : (words : List (List ℕ)) (left : Option (List ℕ)) (bytes : List ℕ) (steps : ℕ) (status : Status) (fault : SourceFault) → steps_of words ≡ Some steps → IfSome left (λ known. bytes ≡ known) → length bytes ≤ limit →
      IsTextFault fault bytes → (status ≡ Faulty fault) ⊎ (status ≡ OutOfMemory) → status ≢ OutOfMemory → IfSome (option_zip (steps_of words) left) (λ asked. IsExact limit asked.0 asked.1 status)
  exact_fault words left bytes steps status fault s known within h e filled =
      all_asked words left steps (λ steps bytes. IsExact limit steps bytes status) s
      (read_all left bytes (λ bytes. IsExact limit steps bytes status) known (by_fault steps bytes status fault (of_text within h) (told_fault status fault e filled)))

  pub exact_run : (words : List (List ℕ)) (left : Option (List ℕ)) (bytes : List ℕ) (steps : ℕ) (status : Status) (start : State) (old new : Option (List ℕ)) → steps_of words ≡ Some steps → IfSome left (λ known. bytes ≡ known) →
      length bytes ≤ limit → StartsOn bytes start → MayEnd (run_reply steps start) old new status → status ≢ WriteFault → IfSome (option_zip (steps_of words) left) (λ asked. IsExact limit asked.0 asked.1 status)
  exact_run words left bytes steps status start old new s known within starts ended fine =
      all_asked words left steps (λ steps bytes. IsExact limit steps bytes status) s
      (read_all left bytes (λ bytes. IsExact limit steps bytes status) known (by_run steps bytes status start p starts (own (own_or_fault (run_reply steps start) old new status ended))))
    where
      p : IsProgramText limit bytes
      p = record { within = within; body = starts.made.body; text = starts.made.text }

      own : (status ≡ status_at (run steps start).outcome) ⊎ (status ≡ WriteFault) → status ≡ status_at (run steps start).outcome
      own (inl e) = e
      own (inr e) = absurd (fine e)

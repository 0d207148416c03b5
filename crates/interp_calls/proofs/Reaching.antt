-- Runs whose sink gets what they say, one after another.
use Rattle.std.proofs.Common.{◌≡◌, ℕ, zero, suc, List, [], ◌++◌, Option, None, Result, Ok, Err, false, true≢false, sym, ap, ◌∙◌, subst}
use Rattle.std.proofs.lemmas.List.{append_assoc, append-nil}
use Rattle.std.specs.Io.KnownBytes.{Appends}
use Rattle.std.specs.Result.{IsErrAnd}
use Rattle.std.proofs.KnownBytes.{Appends-trans}
use Rattle.rn_ports.specs.Sent.{AppendsPart}
use Rattle.run_model.specs.Acts as acts
use Rattle.run_model.specs.Acts.{World, Reason, Outcome, Fine, then_do, Answer}
use Rattle.run_model.specs.Runs.{Begins}
use Rattle.run_model.specs.Turns.{ticked}
use Rattle.interp_steps.specs.declared.stop.Stop.{Stop as StopReason}
use Rattle.interp_steps.specs.declared.stop.Stop.TheVariants.{Spent, Ended, Undefined, Stuck, OutOfMemory}
use Rattle.interp_calls.specs.declared.halt.Halt.{Halt}
use Rattle.interp_calls.specs.declared.halt.Halt.TheVariants.{Stop, WriteFault}
use Rattle.interp_calls.specs.Behind.{behind, outcome_behind, said_in, Appending}
use Rattle.interp_calls.specs.Sending.{is_broken, halting, Halted, nothing, IsWhole, Reaches, Sends}
use Rattle.interp_steps.specs.Stops.{Stopped, Ends}
use Rattle.interp_calls.proofs.Appending.{begins_so}

pub halts : (e : Halt) (P Q : Reason → Type 0) (A B : Type 0) → ((r : Reason) → P r → Q r) → (A → B) → Halted e P A → Halted e Q B
halts (Stop Spent) P Q A B f g x = f _ x
halts (Stop (Ended k)) P Q A B f g x = f _ x
halts (Stop (Undefined c)) P Q A B f g x = f _ x
halts (Stop Stuck) P Q A B f g x = f _ x
halts (Stop OutOfMemory) P Q A B f g x = g x
halts WriteFault P Q A B f g x = g x

stopping : (e : StopReason) (P Q : Reason → Type 0) (B : Type 0) → ((r : Reason) → P r → Q r) → B → Stopped e P → Halted (Stop e) Q B
stopping Spent P Q B f b x = f _ x
stopping (Ended k) P Q B f b x = f _ x
stopping (Undefined c) P Q B f b x = f _ x
stopping Stuck P Q B f b x = f _ x
stopping OutOfMemory P Q B f b x = b

abbrev is_stop : {A : Type 0} → Outcome A → Type 0
is_stop (Fine x w) = ⊥
is_stop (acts.Stop r w) = Unit {0}

breaks : (e : Halt) (P : Reason → Type 0) (B : Type 0) → e ≡ Stop OutOfMemory → B → Halted e P B
breaks e P B is b = subst (λ (h : Halt). Halted h P B) (sym is) b

begins_longer : (s t u : List ℕ) → Begins s t → Begins t u → Begins s u
begins_longer s t u b c = record { more = b.more ++ c.more; whole = c.whole ∙ (ap (λ x. x ++ c.more) b.whole ∙ append_assoc s b.more c.more) }

-- what was said before a run is the beginning of what is said after it
grows : {A : Type 0} → (run : World → Outcome A) → Appending run → (w : World) → Begins w.out (said_in (run w))
grows run e w = subst (λ (out : List ℕ). Begins w.out (said_in (run (record w { out = out })))) (append-nil w.out) (begins_so run e w.out (record w { out = [] }))

begins_then : {A B : Type 0} → (s : List ℕ) (o : Outcome A) (f : A → World → Outcome B) → ((x : A) → Appending (f x)) → Begins s (said_in o) → Begins s (said_in (then_do o f))
begins_then s (Fine x w) f e b = begins_longer s w.out (said_in (f x w)) b (grows (f x) (e x) w)
begins_then s (acts.Stop r w) f e b = b

-- one run and then another
reaches_then : {T A B : Type 0} → (start now : Option (List ℕ)) (w : World) (r : Result T Halt) (onward : T → World → Outcome A) (f : A → World → Outcome B) (o : Outcome A) → ((x : A) → Appending (f x)) → Reaches r onward start now w o
    → Reaches r (λ x v. then_do (onward x v) f) start now w (then_do o f)
reaches_then start now w (Ok x) onward f o all reached = record { sent = reached.sent; appended = reached.appended; arrives = ap (λ p. then_do p f) reached.arrives }
reaches_then start now w (Err e) onward f o all reached = record {
  sent = reached.sent;
  appended = reached.appended;
  arrives = halts e (λ r. o ≡ acts.Stop r (behind reached.sent w)) (λ r. then_do o f ≡ acts.Stop r (behind reached.sent w)) (Begins reached.sent (said_in o)) (Begins reached.sent (said_in (then_do o f)))
      (λ r same. ap (λ p. then_do p f) same) (begins_then reached.sent o f all) reached.arrives;
}

module _ (w v : World) (before after : Option (List ℕ)) where
  pub sends_then : {T A B : Type 0} → (r : Result T Halt) (onward : T → World → Outcome A) (run : World → Outcome A) (f : A → World → Outcome B) → ((x : A) → Appending (f x)) → Sends r onward w v before after run
      → Sends r (λ x u. then_do (onward x u) f) w v before after (λ u. then_do (run u) f)
  sends_then r onward run f all sends start sent a = reaches_then start after v r onward f (run (behind sent w)) all (sends start sent a)

  -- a run that was left has nothing after it
  pub sends_left : {T U A : Type 0} → (e : Halt) (onward : T → World → Outcome A) (other : U → World → Outcome A) (run : World → Outcome A) → Sends (Err e) onward w v before after run → Sends (Err e) other w v before after run
  sends_left e onward other run sends start sent a = let reached = sends start sent a in record { sent = reached.sent; appended = reached.appended; arrives = reached.arrives }

  -- what comes next
  pub sends_onward : {T U A : Type 0} → (x : T) (onward : T → World → Outcome A) (run : World → Outcome A) (u : World) (later : Option (List ℕ)) (r : Result U Halt) (other : U → World → Outcome A) → Sends (Ok x) onward w v before after run → Sends r other v u after later (onward x)
      → Sends r other w u before later run
  sends_onward x onward run u later r other first next start sent a =
      let reached = first start sent a in
      subst (λ o. Reaches r other start later u o) (sym reached.arrives) (next start reached.sent reached.appended)

  -- the same run from another world
  pub sends_from : {T A : Type 0} → (r : Result T Halt) (onward : T → World → Outcome A) (run other : World → Outcome A) (u : World) → ((sent : List ℕ) → other (behind sent u) ≡ run (behind sent w)) → Sends r onward w v before after run → Sends r onward u v before after other
  sends_from r onward run other u same sends start sent a = subst (λ o. Reaches r onward start after v o) (sym (same sent)) (sends start sent a)

  -- the same from there on
  pub sends_to : {T A : Type 0} → (x : T) (onward other : T → World → Outcome A) (run : World → Outcome A) → ((sent : List ℕ) → onward x (behind sent v) ≡ other x (behind sent v)) → Sends (Ok x) onward w v before after run → Sends (Ok x) other w v before after run
  sends_to x onward other run same sends start sent a =
      let reached = sends start sent a in
      record { sent = reached.sent; appended = reached.appended; arrives = reached.arrives ∙ same reached.sent }

module _ (w : World) (now : Option (List ℕ)) where
  -- nothing happens
  pub sends_none : {T A : Type 0} → (x : T) (onward : T → World → Outcome A) (run : World → Outcome A) → ((sent : List ℕ) → run (behind sent w) ≡ onward x (behind sent w)) → Sends (Ok x) onward w w now now run
  sends_none x onward run same start sent a = record { sent = sent; appended = a; arrives = same sent }

  module _ {A : Type 0} (run : World → Outcome A) (all : Appending run) where
    -- what sends nothing
    pub sends_so : {T : Type 0} → (v : World) (r : Result T StopReason) (view : T → A) → Ends r view v (run w) → Sends (halting r) (λ x. Fine (view x)) w v now now run
    sends_so v (Ok x) view end start sent a = record { sent = sent; appended = a; arrives = all sent w ∙ ap (outcome_behind sent) end }
    sends_so v (Err stop) view end start sent a = record {
      sent = sent;
      appended = a;
      arrives = stopping stop (λ r. run w ≡ acts.Stop r v) (λ r. run (behind sent w) ≡ acts.Stop r (behind sent v)) (Begins sent (said_in (run (behind sent w)))) (λ r same. all sent w ∙ ap (outcome_behind sent) same) (begins_so run all sent w) end;
    }

    -- memory is wanting before anything is done
    pub sends_wanting : {U : Type 0} → (r : Result U Halt) (onward : U → World → Outcome A) (v : World) → IsErrAnd r (λ e. e ≡ Stop OutOfMemory) → Sends r onward w v now now run
    sends_wanting (Ok x) onward v is start sent a = absurd is
    sends_wanting (Err e) onward v is start sent a = record { sent = sent; appended = a; arrives = breaks e (λ r. run (behind sent w) ≡ acts.Stop r (behind sent v)) (Begins sent (said_in (run (behind sent w)))) is (begins_so run all sent w) }

-- a run that stopped stopped for one reason
stopped_there : (e : Halt) (P Q : Reason → Type 0) (A B : Type 0) → Halted e (λ _. Unit {0}) ⊥ → ((r : Reason) → P r → Q r) → Halted e P A → Halted e Q B
stopped_there (Stop Spent) P Q A B has f x = f _ x
stopped_there (Stop (Ended k)) P Q A B has f x = f _ x
stopped_there (Stop (Undefined c)) P Q A B has f x = f _ x
stopped_there (Stop Stuck) P Q A B has f x = f _ x
stopped_there (Stop OutOfMemory) P Q A B has f x = elim has [ ]
stopped_there WriteFault P Q A B has f x = elim has [ ]

pub whole_halt : (e : Halt) → is_broken e ≡ false → Halted e (λ _. Unit {0}) ⊥
whole_halt (Stop Spent) n = tt
whole_halt (Stop (Ended k)) n = tt
whole_halt (Stop (Undefined c)) n = tt
whole_halt (Stop Stuck) n = tt
whole_halt (Stop OutOfMemory) n = absurd (true≢false n)
whole_halt WriteFault n = absurd (true≢false n)

said_there : (e : Halt) (P : Reason → Type 0) (A B : Type 0) → Halted e (λ _. Unit {0}) ⊥ → ((r : Reason) → P r → B) → Halted e P A → B
said_there (Stop Spent) P A B has f x = f _ x
said_there (Stop (Ended k)) P A B has f x = f _ x
said_there (Stop (Undefined c)) P A B has f x = f _ x
said_there (Stop Stuck) P A B has f x = f _ x
said_there (Stop OutOfMemory) P A B has f x = elim has [ ]
said_there WriteFault P A B has f x = elim has [ ]

abbrev stop_there : {A B : Type 0} → Reason → Outcome A → Outcome B
stop_there r (Fine x w) = acts.Stop r w
stop_there r (acts.Stop q w) = acts.Stop r w

never : {A : Type 0} → (r : Reason) (x : A) (w v : World) → acts.Stop r w ≡ Fine x v → ⊥
never r x w v e = subst is_stop e tt

-- a step begins, where one is left
begins_step : (left : ℕ) (w v : World) → ((go : World → Outcome Answer) → ticked left w go ≡ go v) → (run : World → Outcome Answer) (sent : List ℕ) → ticked left (behind sent w) run ≡ run (behind sent v)
begins_step zero w v begins run sent = absurd (never (acts.Spent) None w v (begins (Fine None)))
begins_step (suc n) w v begins run sent = begins (λ u. run (behind sent u))

pub sends_step : (w v : World) (now : Option (List ℕ)) (run : World → Outcome Answer) → ((go : World → Outcome Answer) → ticked w.left w go ≡ go v) → Sends (Ok (tt {0})) (λ _. run) w v now now (λ u. ticked u.left u run)
sends_step w v now run begins start sent a = record { sent = sent; appended = a; arrives = begins_step w.left w v begins run sent }

module _ (w v : World) (before after : Option (List ℕ)) where
  -- all that was said is sent
  pub sends_all : v ≡ record w { out = [] } → Appends before after w.out → Sends (Ok (tt {0})) (λ _. nothing) w v before after nothing
  sends_all same all start sent a = record {
    sent = sent ++ w.out;
    appended = Appends-trans start before after sent w.out a all;
    arrives = ap (λ (out : List ℕ). Fine tt (record w { out = out })) (sym (append-nil (sent ++ w.out))) ∙ ap (λ u. Fine tt (behind (sent ++ w.out) u)) (sym same);
  }

  -- a front of it is sent, and then the sink failed
  pub sends_part : AppendsPart before after w.out → Sends (Err WriteFault) (λ (_ : Unit {0}). nothing) w v before after nothing
  sends_part part start sent a = record {
    sent = sent ++ part.sent.front;
    appended = Appends-trans start before after sent part.sent.front a part.sent.grew;
    arrives = record { more = part.rest; whole = ap (λ x. sent ++ x) part.sent.whole ∙ sym (append_assoc sent part.sent.front part.rest) };
  }

module _ {T A : Type 0} (onward : T → World → Outcome A) (run : World → Outcome A) (w v u : World) (before now after : Option (List ℕ)) where
  -- what was said before a run stopped is sent
  pub sends_last : (e : Halt) → IsWhole {T = T} (Err e) → Sends (Err e) onward w v before now run → Sends (Ok (tt {0})) (λ _. nothing) v u now after nothing → Sends (Err e) onward w u before after run
  sends_last e has first last start sent a =
      let reached = first start sent a in
      let then = last start reached.sent reached.appended in
      record { sent = then.sent; appended = then.appended; arrives = stopped_there e (λ r. run (behind sent w) ≡ acts.Stop r (behind reached.sent v)) (λ r. run (behind sent w) ≡ acts.Stop r (behind then.sent u)) (Begins reached.sent (said_in (run (behind sent w)))) (Begins then.sent (said_in (run (behind sent w)))) has (λ r same. same ∙ ap (stop_there r) then.arrives) reached.arrives }

  -- or the sink fails then
  pub sends_no_last : (stop e : Halt) → IsWhole {T = T} (Err stop) → Sends (Err stop) onward w v before now run → Sends (Err e) (λ (_ : Unit {0}). nothing) v u now after nothing → Sends (Err e) onward w u before after run
  sends_no_last stop e has first last start sent a =
      let reached = first start sent a in
      let then = last start reached.sent reached.appended in
      let said : said_in (run (behind sent w)) ≡ reached.sent ++ v.out = said_there stop (λ r. run (behind sent w) ≡ acts.Stop r (behind reached.sent v)) (Begins reached.sent (said_in (run (behind sent w)))) (said_in (run (behind sent w)) ≡ reached.sent ++ v.out) has (λ r same. ap said_in same) reached.arrives in
      record { sent = then.sent; appended = then.appended; arrives = halts e (λ r. Fine tt (behind reached.sent v) ≡ acts.Stop r (behind then.sent u)) (λ r. run (behind sent w) ≡ acts.Stop r (behind then.sent u)) (Begins then.sent (reached.sent ++ v.out)) (Begins then.sent (said_in (run (behind sent w)))) (λ r same. absurd (never r tt _ _ (sym same))) (λ b. subst (λ (t : List ℕ). Begins then.sent t) (sym said) b) then.arrives }

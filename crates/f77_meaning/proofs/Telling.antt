-- What is told of a run by why it stopped.
use Rattle.std.proofs.Common.{◌≡◌, ℕ, ◌-◌, List, [], ◌++◌, Option, None, Some, Result, Ok, Err, IfOk, OnOk, OnErr, ℤ, map, option_map, length, append-nil, refl, sym, ap, ◌∙◌, subst}
use Rattle.std.proofs.lemmas.List.{length-map}
use Rattle.std.specs.Io.KnownBytes.{Appends}
use Rattle.std.specs.Result.{IsErr}
use Rattle.std.proofs.lemmas.Bool.{false≢true}
use Rattle.std.proofs.KnownBytes.{Appends-nil}
use Rattle.rn_ports.specs.Sent.{AppendsPart}
use Rattle.run_model.specs.Acts as acts
use Rattle.run_model.specs.Acts.{World, Outcome, Answer, Fine}
use Rattle.run_model.specs.Runs as runs
use Rattle.run_model.specs.Runs.{Wrong, answer, text_of, Begins}
use Rattle.f77_tree.specs.declared.unit.Unit.{Unit as SourceUnit}
use Rattle.f77_tree.specs.declared.unit.Value.{Value}
use Rattle.f77_semantics.specs.Values.{stored}
use Rattle.f77_semantics.specs.Source.{Source, main_of, routine, with_main}
use Rattle.f77_semantics.specs.Units.{meaning, named, fresh_world}
use Rattle.interp_steps.specs.declared.stop.Stop.TheVariants.{Spent, Ended, Undefined, Stuck, OutOfMemory}
use Rattle.interp_calls.specs.declared.halt.Halt.{Halt}
use Rattle.interp_calls.specs.declared.halt.Halt.TheVariants.{Stop, WriteFault}
use Rattle.interp_calls.specs.Behind.{behind, said_in}
use Rattle.interp_calls.specs.Sending.{IsWhole, Reaches}
use Rattle.f77_meaning.specs.declared.runs.InterpretRefused.{InterpretRefused}
use Rattle.f77_meaning.specs.declared.runs.Run.{Run}
use Rattle.f77_meaning.specs.declared.runs.Run.TheVariants as run
use Rattle.f77_meaning.specs.declared.runs.Undefinedness.{Undefinedness}
use Rattle.f77_meaning.specs.Answers.{number_of, run_of, IsTold}
use Rattle.f77_meaning.specs.Ends.{IsCause, IsEnd}
use Rattle.f77_meaning.proofs.Causes.{cause_known}

-- how the main program's run goes on, where it returns
abbrev pub answering : Option Value → World → Outcome Answer
answering v = Fine (option_map stored v)

-- a run that isn't wrong has such an end
is_end : (r : Result (Option Value) Halt) (n : ℕ) (start now : Option (List ℕ)) (w : World) (o : Outcome Answer) → Reaches r answering start now w o → (answer n o ≡ Wrong → ⊥) → ((c : ℕ) (v : World) → o ≡ acts.Stop (acts.Undefined c) v → IsCause c) → IsEnd r
is_end (Ok v) n start now w o reached not known = absurd (not (ap (answer n) reached.arrives))
is_end (Err (Stop Spent)) n start now w o reached not known = tt
is_end (Err (Stop (Ended k))) n start now w o reached not known = tt
is_end (Err (Stop (Undefined c))) n start now w o reached not known = known c (behind reached.sent w) reached.arrives
is_end (Err (Stop Stuck)) n start now w o reached not known = absurd (not (ap (answer n) reached.arrives))
is_end (Err (Stop OutOfMemory)) n start now w o reached not known = tt
is_end (Err WriteFault) n start now w o reached not known = tt

pub no_main : (units : List SourceUnit) (input : List ℤ) (n : ℕ) → main_of units ≡ None → Source units input n ≡ Wrong
no_main units input n e = ap (λ m. with_main (map routine units) m input n) e

main_runs : (units : List SourceUnit) (input : List ℤ) (n : ℕ) (m : SourceUnit) → main_of units ≡ Some m → Source units input n ≡ with_main (map routine units) (Some m) input n
main_runs units input n m e = ap (λ m. with_main (map routine units) m input n) e

module _ (units : List SourceUnit) (input : List ℤ) (n : ℕ) (m : SourceUnit) where
  -- what the main program's run comes to
  abbrev pub main_outcome : Outcome Answer
  main_outcome = meaning (named (map routine units) (routine m)) (length units) m.name [] (fresh_world (map routine units) input n)

  pub runs_so : main_of units ≡ Some m → Source units input n ≡ answer n main_outcome
  runs_so e =
      main_runs units input n m e
      ∙ ap (λ (d : ℕ). answer n (meaning (named (map routine units) (routine m)) d m.name [] (fresh_world (map routine units) input n))) (length-map units routine)

  -- the run of an accepted program has such an end
  pub ended : (r : Result (Option Value) Halt) (start now : Option (List ℕ)) (w : World) → main_of units ≡ Some m → Reaches r answering start now w main_outcome → (Source units input n ≡ Wrong → ⊥) → IsEnd r
  ended r start now w e reached not =
      is_end r n start now w main_outcome reached (λ wrong. not (runs_so e ∙ wrong))
      (λ c v is. cause_known (named (map routine units) (routine m)) (length units) m.name [] (fresh_world (map routine units) input n) v c is)

-- what a run says that isn't wrong
text_is : (n : ℕ) (o : Outcome Answer) → (answer n o ≡ Wrong → ⊥) → text_of (answer n o) ≡ said_in o
text_is n (Fine x w) not = absurd (not refl)
text_is n (acts.Stop acts.Spent w) not = refl
text_is n (acts.Stop (acts.Ended k) w) not = refl
text_is n (acts.Stop (acts.Undefined c) w) not = refl
text_is n (acts.Stop acts.Stuck w) not = absurd (not refl)

-- the sink got a front where the run was broken off
tells_front : (e : InterpretRefused) (n : ℕ) (start now : Option (List ℕ)) (sent : List ℕ) (o : Outcome Answer) → Appends start now sent → Begins sent (said_in o) → (answer n o ≡ Wrong → ⊥) → IsTold (Err e) start now (answer n o)
tells_front e n start now sent o appended begins not = record { rest = begins.more; sent = record { front = sent; whole = text_is n o not ∙ begins.whole; grew = appended } }

module _ (n : ℕ) (start now : Option (List ℕ)) (w : World) (o : Outcome Answer) where
  all_sent : (sent : List ℕ) → w.out ≡ [] → sent ++ w.out ≡ sent
  all_sent sent none = ap (λ x. sent ++ x) none ∙ append-nil sent

  module _ (end : Result (Option Value) Halt) (none : IsWhole end → w.out ≡ []) (reached : Reaches end answering start now w o) where
    -- the end, and what the sink got before it
    at : (e : Halt) → end ≡ Err e → Reaches (Err e) answering start now w o
    at e is = subst (λ r. Reaches r answering start now w o) is reached

    none_left : (e : Halt) → end ≡ Err e → IsWhole {T = Option Value} (Err e) → w.out ≡ []
    none_left e is whole = none (subst (λ (r : Result (Option Value) Halt). IsWhole r) (sym is) whole)

    pub tells_going : end ≡ Err (Stop Spent) → IsTold (Ok run.Going) start now (answer n o)
    tells_going is =
        let there = at (Stop Spent) is in
        subst (λ r. IsTold (Ok run.Going) start now r) (sym (ap (answer n) there.arrives ∙ ap runs.Going (all_sent there.sent (none_left (Stop Spent) is tt)))) (refl, there.appended)

    pub tells_ended : (k : ℕ) → end ≡ Err (Stop (Ended k)) → IsTold (Ok (run.Ended k)) start now (answer n o)
    tells_ended k is =
        let there = at (Stop (Ended k)) is in
        subst (λ r. IsTold (Ok (run.Ended k)) start now r) (sym (ap (answer n) there.arrives ∙ ap (runs.Finished k) (all_sent there.sent (none_left (Stop (Ended k)) is tt)))) (refl, there.appended)

    pub tells_undefined : (c step : ℕ) (cause : Undefinedness) → end ≡ Err (Stop (Undefined c)) → step ≡ n - w.left → number_of cause ≡ c → IsTold (Ok (run.Undefined step cause)) start now (answer n o)
    tells_undefined c step cause is same number =
        let there = at (Stop (Undefined c)) is in
        let said = all_sent there.sent (none_left (Stop (Undefined c)) is tt) in
        subst (λ r. IsTold (Ok (run.Undefined step cause)) start now r) (sym (ap (answer n) there.arrives ∙ (λ i. runs.UndefinedAt (sym same i) (sym number i) (said i)))) (refl, there.appended)

    pub tells_fault : (e : InterpretRefused) → end ≡ Err WriteFault → (answer n o ≡ Wrong → ⊥) → IsTold (Err e) start now (answer n o)
    tells_fault e is not = let there = at WriteFault is in tells_front e n start now there.sent o there.appended there.arrives not

    pub tells_wanting : (e : InterpretRefused) → end ≡ Err (Stop OutOfMemory) → (answer n o ≡ Wrong → ⊥) → IsTold (Err e) start now (answer n o)
    tells_wanting e is not = let there = at (Stop OutOfMemory) is in tells_front e n start now there.sent o there.appended there.arrives not

-- or nothing at all
pub broken_off : (old new : Option (List ℕ)) (s : runs.Run) (r : Result Run InterpretRefused) → IsErr r → new ≡ old → IsTold r old new s
broken_off old new s (Ok run) is same = absurd (false≢true is)
broken_off old new s (Err e) is same = record { rest = text_of s; sent = record { front = []; whole = refl; grew = subst (λ o. Appends old o []) (sym same) (Appends-nil old) } }

module _ (old new : Option (List ℕ)) (s : runs.Run) where
  pub told_run : (r : Result Run InterpretRefused) → IsTold r old new s → IfOk r (λ run. s ≡ run_of run (text_of s))
  told_run (Ok run) told = told.0
  told_run (Err e) told = tt

  pub told_all : (r : Result Run InterpretRefused) → IsTold r old new s → OnOk r (Appends old new (text_of s))
  told_all (Ok run) told = told.1
  told_all (Err e) told = tt

  pub told_front : (r : Result Run InterpretRefused) → IsTold r old new s → OnErr r (AppendsPart old new (text_of s))
  told_front (Ok run) told = tt
  told_front (Err e) told = told

-- What the end of a machine's run tells of the program that its file agrees with.
use Rattle.std.proofs.Common.{◌≡◌, ◌≢◌, ℕ, ◌+◌, ◌-◌, ◌*◌, ◌≤◌, ◌<◌, List, [], ◌++◌, refl, sym, ap, ◌∙◌, subst, arith, ◌⊎◌, inl, inr}
use Rattle.std.specs.Io.KnownBytes.{Appends}
use Rattle.std.specs.declared.option.Option.{Option}
use Rattle.std.proofs.Math.Nat.{le_of_mul-le-mul_right}
use Rattle.std.proofs.lemmas.Bool.{cases_lt}
use Rattle.run_model.specs.Runs.{Run, Going, Finished, UndefinedAt, Wrong, text_of, Begins}
use Rattle.f77_tree.specs.declared.unit.Unit.{Unit as SourceUnit}
use Rattle.thin_form.specs.declared.statement.Statement.{Statement}
use Rattle.thin_text.specs.Thin.{text_bytes}
use Rattle.rv_machine.specs.declared.outcome.Outcome.{Outcome}
use Rattle.rv_machine.specs.declared.outcome.Outcome.TheVariants.{Running, Halted, Trap}
use Rattle.rv_machine.specs.Machine.{State, run, output}
use Rattle.rv_machine.proofs.Steps.{output-grows, end_stays}
use Rattle.f77_semantics.specs.Source.{Source}
use Rattle.thin_code.specs.Sizes.{steps_each, words_each}
use Rattle.thin_code.specs.Agreement.{IsOrderly, HasEnded, IsUndefined}
use Rattle.rn_session.specs.declared.status.Status.{Status}
use Rattle.rn_session.specs.declared.status.Status.TheVariants.{Ok as Done, StepsSpent}
use Rattle.rn_session.specs.Replies.{status_at, line_at, behind, run_reply, AppendsLine, MayEnd, own, in_line, in_output}
use Rattle.rn_session.specs.Sources.{IsDefined, Finishes, SaysOfSource}
use Rattle.rn_session.specs.Answers.{StartsOn}

-- ---- two ends of one run

pub record SameEnd (s : State) (a b : ℕ) : Type 0 where
  pub stands : run a s ≡ run b s
  pub prints : output a s ≡ output b s

same_end : (s : State) (a b : ℕ) → (run a s).outcome ≢ Running → (run b s).outcome ≢ Running → SameEnd s a b
same_end s a b p q = go (cases_lt a b)
  where
    go : (a < b) ⊎ (b ≤ a) → SameEnd s a b
    go (inl l) = let e = end_stays s a b (omega arith) p in record { stands = sym e.stands; prints = sym e.prints }
    go (inr l) = let e = end_stays s b a l q in record { stands = e.stands; prints = e.prints }

not_halted : (o : Outcome) (k : ℕ) → o ≡ Halted k → o ≢ Running
not_halted o k e r = let z : Halted k ≡ Running = sym e ∙ r in cc

-- ---- what is told

module _ (bytes : List ℕ) (s : State) (started : StartsOn bytes s) (steps : ℕ) where
  abbrev body : List Statement
  body = started.made.body

  abbrev trees : List SourceUnit
  trees = started.made.text.trees

  -- the steps of the program of which the run tells
  abbrev reach : ℕ
  reach = (steps + 1) * steps_each body

  run_at : (r : Run) → Source trees [] reach ≡ r → IsOrderly r
  run_at r e = subst IsOrderly e (started.made.orderly [] tt reach)

  -- what the machine printed so far is a beginning of what the program prints
  begins : (run steps s).outcome ≡ Running → IsDefined trees → Begins (output steps s) (text_of (Source trees [] reach))
  begins running defined = go (Source trees [] reach) refl
    where
      go : (r : Run) → Source trees [] reach ≡ r → Begins (output steps s) (text_of r)
      go (Going out) e =
          let k = started.made.agrees.going [] tt s started.loads reach out e in
          let l : steps + 1 ≤ k.count + 1 = le_of_mul-le-mul_right {m = steps + 1} {n = k.count + 1} {k = steps_each body} k.enough (omega arith) in
          record { more = output (k.count - steps) (run steps s); whole = sym k.prints ∙ output-grows steps k.count s (omega (arith, l)) }
      go (Finished status out) e =
          let k = started.made.agrees.ended [] tt s started.loads reach status out e in
          longer k.count k.halts (cases_lt steps k.count) k.prints
        where
          longer : (count : ℕ) → (run count s).outcome ≡ Halted status → (steps < count) ⊎ (count ≤ steps) → output count s ≡ out → Begins (output steps s) out
          longer count h (inl l) t = record { more = output (count - steps) (run steps s); whole = sym t ∙ output-grows steps count s (omega (arith, l)) }
          longer count h (inr l) t =
              let same = end_stays s count steps l (not_halted (run count s).outcome status h) in
              absurd (not_halted (run steps s).outcome status (ap (λ x. x.outcome) same.stands ∙ h) running)
      go (UndefinedAt step cause out) e = absurd (defined reach (subst IsUndefined (sym e) tt))
      go Wrong e = absurd (run_at Wrong e)

  -- the program ends as the machine does
  ends : (status : ℕ) → (run steps s).outcome ≡ Halted status → IsDefined trees → (Finishes trees status (output steps s)) × (status ≡ 0)
  ends status halted defined = go (Source trees [] reach) refl (started.made.agrees.halted [] tt s started.loads steps status halted)
    where
      go : (r : Run) → Source trees [] reach ≡ r → HasEnded (Source trees [] reach) → (Finishes trees status (output steps s)) × (status ≡ 0)
      go (Going out) e h = absurd (subst HasEnded e h)
      go (Finished other out) e h =
          let k = started.made.agrees.ended [] tt s started.loads reach other out e in
          let same = same_end s k.count steps (not_halted (run k.count s).outcome other k.halts) (not_halted (run steps s).outcome status halted) in
          let one : Halted other ≡ Halted status = sym k.halts ∙ ap (λ x. x.outcome) same.stands ∙ halted in
          let number : other ≡ status = cc in
          let text : out ≡ output steps s = sym k.prints ∙ same.prints in
          (record { steps = reach; ends = e ∙ ap (λ n. Finished n out) number ∙ ap (Finished status) text }, sym number ∙ run_at (Finished other out) e)
      go (UndefinedAt step cause out) e h = absurd (defined reach (subst IsUndefined (sym e) tt))
      go Wrong e h = absurd (subst HasEnded e h)

  few : (run steps s).outcome ≡ Running → steps < 64 + 32 * text_bytes started.made.text.units
  few running = go (cases_lt steps (64 + 32 * text_bytes started.made.text.units))
    where
      go : (steps < 64 + 32 * text_bytes started.made.text.units) ⊎ (64 + 32 * text_bytes started.made.text.units ≤ steps) → steps < 64 + 32 * text_bytes started.made.text.units
      go (inl l) = l
      go (inr l) = absurd (started.made.bound [] tt s started.loads steps l running)

  -- a program that ends at step n has ended once n * W + 2 instructions are done
  late : (run steps s).outcome ≡ Running → (n status : ℕ) (out : List ℕ) → Source trees [] n ≡ Finished status out → steps < n * words_each body + 2
  late running n status out e = go (cases_lt steps (n * words_each body + 2))
    where
      go : (steps < n * words_each body + 2) ⊎ (n * words_each body + 2 ≤ steps) → steps < n * words_each body + 2
      go (inl l) = l
      go (inr l) =
          let k = started.made.agrees.ended [] tt s started.loads n status out e in
          let same = end_stays s k.count steps (omega (arith, l, k.within)) (not_halted (run k.count s).outcome status k.halts) in
          absurd (not_halted (run steps s).outcome status (ap (λ x. x.outcome) same.stands ∙ k.halts) running)

  -- what each status tells
  pub told : (status : Status) (old new : Option (List ℕ)) → MayEnd (run_reply steps s) old new status
      → (status ≡ Done → Appends old new ((run_reply steps s).output ++ (run_reply steps s).line))
      → SaysOfSource status steps bytes old new
  told status old new (in_line e d w) done = subst (λ x. SaysOfSource x steps bytes old new) (sym e) tt
  told status old new (in_output e f w) done = subst (λ x. SaysOfSource x steps bytes old new) (sym e) tt
  told status old new (own e w) done = go (run steps s).outcome refl e
    where
      line_of : (o : Outcome) → (run steps s).outcome ≡ o → AppendsLine old new (output steps s) (behind (output steps s) (line_at (run steps s).outcome)) →
          AppendsLine old new (output steps s) (behind (output steps s) (line_at o))
      line_of o r l = subst (λ o. AppendsLine old new (output steps s) (behind (output steps s) (line_at o))) r l

      go : (o : Outcome) → (run steps s).outcome ≡ o → status ≡ status_at (run steps s).outcome → SaysOfSource status steps bytes old new
      go Running r e =
          let spent : status ≡ StepsSpent = e ∙ ap status_at r in
          subst (λ x. SaysOfSource x steps bytes old new) (sym spent) (record {
            body = body;
            text = started.made.text;
            out = output steps s;
            wrote = line_of Running r w;
            begins = begins r;
            few = few r;
            late = late r;
          })
      go (Halted k) r e =
          let ended : status ≡ Done = e ∙ ap status_at r in
          subst (λ x. SaysOfSource x steps bytes old new) (sym ended) (record {
            body = body;
            text = started.made.text;
            status = k;
            out = output steps s;
            wrote = subst (λ o. Appends old new (output steps s ++ behind (output steps s) (line_at o))) r (done ended);
            whole = λ d. (ends k r d).0;
            zero = λ d. (ends k r d).1;
          })
      go (Trap pc cause) r e =
          subst (λ x. SaysOfSource x steps bytes old new) (sym (e ∙ ap status_at r)) (record {
            body = body;
            text = started.made.text;
            out = output steps s;
            wrote = line_of (Trap pc cause) r w;
            steps = reach;
            undefined = started.made.agrees.trapped [] tt s started.loads steps pc cause r;
          })

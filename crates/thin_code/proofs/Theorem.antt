-- The executable of a program agrees with it.
use Rattle.std.proofs.Common.{◌≡◌, ℕ, zero, suc, ◌+◌, ◌-◌, ◌*◌, ◌≤◌, ◌<◌, ℤ, List, [], ◌∷◌, length, take, refl, sym, ap, ◌∙◌, subst, arith, length-append}
use Rattle.std.specs.Prelude.{sum_by}
use Rattle.std.proofs.lemmas.List.Sums.{sum_by-append, sum_by-take-le}
use Rattle.run_model.specs.Acts.{Outcome, Answer, no_calls}
use Rattle.run_model.specs.Turns.{turns}
use Rattle.run_model.specs.Runs.{Going, Finished, UndefinedAt, answer}
use Rattle.thin_form.specs.declared.statement.Statement.{Statement}
use Rattle.thin_form.specs.declared.statement.Statement.TheVariants.{End}
use Rattle.thin_form.specs.Programs.{size_of, IsProgram, IsSmall}
use Rattle.rv_machine.specs.declared.outcome.Outcome.TheVariants.{Running, Halted}
use Rattle.rv_machine.specs.Machine.{State}
use Rattle.thin_code.specs.Meaning.{fresh, Source}
use Rattle.thin_code.specs.Sizes.{weight_of, steps_each, words_each}
use Rattle.thin_code.specs.Code.{frame_of, file_of}
use Rattle.thin_code.specs.Agreement.{Reaches, Ends, HasEnded, Agrees, EndsWithin}
use Rattle.thin_code.proofs.Orderly.{nothing_holds}
use Rattle.thin_code.proofs.Stepped.{Comes, going, ended, undefined, comes, turn_of}
use Rattle.thin_code.proofs.Counts.{body_words, body_weight, body_size}
use Rattle.thin_code.proofs.Agreeing.{Begun, done, over, never_traps, stays_halted}
use Rattle.thin_code.proofs.Filed.{shaped, begun}

-- what n steps of the program come to
source : (body : List Statement) (p : IsProgram body) (input : List ℤ) (s : State) → Begun (frame_of body) p.front s → (n : ℕ) → Comes (frame_of body) p.front n s.mem (fresh input n) (turns no_calls (turn_of (frame_of body) body) (suc n) 0 (fresh input n))
source body p input s b n = comes (frame_of body) body [] p.front p.ends b.plain b.sound n (suc n) (omega arith) s.mem (fresh input n) refl (nothing_holds (frame_of body) input n s.mem)

-- ---- counts

module _ (body : List Statement) (p : IsProgram body) where
  count : length body ≡ length p.front + 1
  count = ap length p.ends ∙ length-append p.front (End ∷ [])

  -- the words of the first statements, and of all, within the bound
  words_few : (n : ℕ) → body_words (take n p.front) ≤ 256 * sum_by weight_of body
  words_few n =
      let w = body_weight (take n p.front) in
      let t = sum_by-take-le weight_of p.front n in
      let e : sum_by weight_of body ≡ sum_by weight_of p.front + sum_by weight_of (End ∷ []) = ap (sum_by weight_of) p.ends ∙ sum_by-append weight_of p.front (End ∷ []) in
      omega (arith, w, t, e)

  words_all : body_words p.front ≤ 256 * sum_by weight_of body
  words_all =
      let w = body_weight p.front in
      let e : sum_by weight_of body ≡ sum_by weight_of p.front + sum_by weight_of (End ∷ []) = ap (sum_by weight_of) p.ends ∙ sum_by-append weight_of p.front (End ∷ []) in
      omega (arith, w, e)

  size_all : body_words p.front ≤ 32 * sum_by size_of body
  size_all =
      let w = body_size p.front in
      let e : sum_by size_of body ≡ sum_by size_of p.front + sum_by size_of (End ∷ []) = ap (sum_by size_of) p.ends ∙ sum_by-append size_of p.front (End ∷ []) in
      omega (arith, w, e)

  -- no step has a word where none has begun
  within_reach : (n : ℕ) → 2 + body_words (take n p.front) ≤ n * words_each body + 2
  within_reach zero = omega arith
  within_reach (suc n) = let w = words_few (suc n) in omega (arith, w)

  within_end : (n : ℕ) → 1 ≤ n → 5 + body_words p.front ≤ n * words_each body + 2
  within_end zero h = absurd (omega arith)
  within_end (suc n) h = let w = words_all in omega (arith, w)

  enough_steps : (m : ℕ) → length p.front < (m + 1) * steps_each body
  enough_steps m = let c = count in omega (arith, c)

  few_steps : (n m : ℕ) → n ≤ length p.front → n ≤ (m + 1) * steps_each body
  few_steps n m h = let c = count in omega (arith, c)

-- ---- the four parts

module _ (body : List Statement) (p : IsProgram body) (input : List ℤ) (s : State) (b : Begun (frame_of body) p.front s) where
  reaches : (n : ℕ) (out : List ℕ) (o : Outcome Answer) → Comes (frame_of body) p.front n s.mem (fresh input n) o → answer n o ≡ Going out → Reaches (steps_each body) (words_each body) s n out
  reaches n out o (going v l e t) a =
      let d = done (frame_of body) p.front s n b in
      let text : v.out ≡ out = going_out v.out out (ap (answer n) (sym e) ∙ a) in
      record {
        count = 2 + body_words (take n p.front);
        enough = few_steps body p n (2 + body_words (take n p.front)) l;
        within = within_reach body p n;
        runs = ap (λ t. t.outcome) d.goes.stands ∙ d.ready.runs.runs;
        prints = d.goes.prints ∙ sym t ∙ text;
      }
    where
      going_out : (x y : List ℕ) → Going x ≡ Going y → x ≡ y
      going_out x y e = cc
  reaches n out o (ended v l e t) a = let z : Finished 0 v.out ≡ Going out = ap (answer n) (sym e) ∙ a in absurd (cc)
  reaches n out o (undefined c v e) a = let z : UndefinedAt (n - v.left) c v.out ≡ Going out = ap (answer n) (sym e) ∙ a in absurd (cc)

  ends : (n status : ℕ) (out : List ℕ) (o : Outcome Answer) → Comes (frame_of body) p.front n s.mem (fresh input n) o → answer n o ≡ Finished status out → Ends (words_each body) s n status out
  ends n status out o (going v l e t) a = let z : Going v.out ≡ Finished status out = ap (answer n) (sym e) ∙ a in absurd (cc)
  ends n status out o (ended v l e t) a =
      let z : Finished 0 v.out ≡ Finished status out = ap (answer n) (sym e) ∙ a in
      let h = over (frame_of body) p.front s b in
      let text : v.out ≡ out = cc in
      let zero_is : 0 ≡ status = cc in
      record {
        count = 5 + body_words p.front;
        within = within_end body p n (omega (arith, l));
        halts = h.halts ∙ ap Halted zero_is;
        prints = h.prints ∙ sym t ∙ text;
      }
  ends n status out o (undefined c v e) a = let z : UndefinedAt (n - v.left) c v.out ≡ Finished status out = ap (answer n) (sym e) ∙ a in absurd (cc)

  has_ended : (n : ℕ) (o : Outcome Answer) → length p.front < n → Comes (frame_of body) p.front n s.mem (fresh input n) o → HasEnded (answer n o)
  has_ended n o h (going v l e t) = absurd (omega (arith, h, l))
  has_ended n o h (ended v l e t) = subst (λ o. HasEnded (answer n o)) (sym e) tt
  has_ended n o h (undefined c v e) = subst (λ o. HasEnded (answer n o)) (sym e) tt

pub agrees : (body : List Statement) → IsProgram body → IsSmall body → Agrees (Source body) (steps_each body) (words_each body) (file_of body)
agrees body p q = record {
  shaped = λ none. none _ _ _ (shaped body q);
  going = λ input words s h n out e. let b = begun body p q input s h in reaches body p input s b n out _ (source body p input s b n) e;
  ended = λ input words s h n status out e. let b = begun body p q input s h in ends body p input s b n status out _ (source body p input s b n) e;
  halted = λ input words s h m status e. let b = begun body p q input s h in
      has_ended body p input s b ((m + 1) * steps_each body) _ (enough_steps body p m) (source body p input s b ((m + 1) * steps_each body));
  trapped = λ input words s h m pc cause e. absurd (never_traps s m (5 + body_words p.front) pc cause (over (frame_of body) p.front s (begun body p q input s h)).halts e);
}

pub bounded : (body : List Statement) → IsProgram body → IsSmall body → EndsWithin (file_of body) (64 + 32 * sum_by size_of body)
bounded body p q input words s h m l r =
    let o = over (frame_of body) p.front s (begun body p q input s h) in
    let k : 5 + body_words p.front ≤ m = omega (arith, l, size_all body p) in
    let z : Halted 0 ≡ Running = sym (stays_halted s (5 + body_words p.front) m k o.halts) ∙ r in
    cc

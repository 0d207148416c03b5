-- Runs with more steps go on where runs with fewer stop.
use Rattle.std.proofs.Common.{◌≡◌, ℕ, zero, suc, ◌+◌, ◌-◌, ◌≤◌, List, [], ◌∷◌, ◌++◌, Option, Some, None, ℤ, refl, sym, ap, ◌∙◌, subst, append_assoc, append-nil, arith, ◌⊎◌, inl, inr}
use Rattle.run_model.specs.Storage.{Value, Interval, put_cell}
use Rattle.run_model.specs.Acts.{World, Spent, Ended, Undefined, Stuck, Outcome, Fine, Stop, then_do, Act, Done, Get, Put, Say, Take, Ask, Fail, Answer, Handler, play, with_cell, with_input, no_calls}
use Rattle.run_model.specs.Turns.{After, Again, Result, ticked, follow, turns}
use Rattle.run_model.specs.Runs.{Begins, text_of, answer, RunExtends, UndefinedAt, Wrong}
use Rattle.run_model.specs.Laws.{GoesOnWithMoreSteps}

abbrev pub printed_by : {A : Type 0} → Outcome A → List ℕ
printed_by (Fine x v) = v.out
printed_by (Stop r v) = v.out

pub same : (out : List ℕ) → Begins out out
same out = record { more = []; whole = sym (append-nil out) }

pub longer : (a b c : List ℕ) → Begins a b → Begins b c → Begins a c
longer a b c p q = record { more = p.more ++ q.more; whole = q.whole ∙ ap (λ x. x ++ q.more) p.whole ∙ append_assoc a p.more q.more }

abbrev pub with_more : ℕ → World → World
with_more k w = record w { left = w.left + k }

-- what a run with k steps more does
abbrev pub Extends : {A : Type 0} → ℕ → Outcome A → Outcome A → Type 0
Extends k (Fine x v) o = o ≡ Fine x (with_more k v)
Extends k (Stop Spent v) o = Begins v.out (printed_by o)
Extends k (Stop (Ended e) v) o = o ≡ Stop (Ended e) (with_more k v)
Extends k (Stop (Undefined c) v) o = o ≡ Stop (Undefined c) (with_more k v)
Extends k (Stop Stuck v) o = o ≡ Stop Stuck (with_more k v)

pub grows_then : {A B : Type 0} → (out : List ℕ) (o : Outcome A) (f : A → World → Outcome B) → Begins out (printed_by o) → ((x : A) (v : World) → Begins v.out (printed_by (f x v))) → Begins out (printed_by (then_do o f))
grows_then out (Fine x v) f b g = longer out v.out _ b (g x v)
grows_then out (Stop r v) f b g = b

pub extends_then : {A B : Type 0} → (k : ℕ) (o o' : Outcome A) (f : A → World → Outcome B) → Extends k o o' → ((x : A) (v : World) → Extends k (f x v) (f x (with_more k v))) → ((x : A) (v : World) → Begins v.out (printed_by (f x v))) → Extends k (then_do o f) (then_do o' f)
extends_then k (Fine x v) o' f e x_ g = subst (λ o. Extends k (f x v) (then_do o f)) (sym e) (x_ x v)
extends_then k (Stop Spent v) o' f e x_ g = grows_then v.out o' f e g
extends_then k (Stop (Ended z) v) o' f e x_ g = ap (λ o. then_do o f) e
extends_then k (Stop (Undefined z) v) o' f e x_ g = ap (λ o. then_do o f) e
extends_then k (Stop Stuck v) o' f e x_ g = ap (λ o. then_do o f) e

module _ (h : Handler) (hg : (s : ℕ) (ds : List Interval) (w : World) → Begins w.out (printed_by (h s ds w))) where
  pub play_grows : {A : Type 0} → (a : Act A) (w : World) → Begins w.out (printed_by (play h a w))
  play_grows (Done x) w = same w.out
  play_grows {A = A} (Get l g) w = at_cell (w.cells l) (λ v. play_grows (g v) w)
    where
      at_cell : (o : Option Value) → ((v : Value) → Begins w.out (printed_by (play h (g v) w))) → Begins w.out (printed_by (with_cell {A = A} o w (λ v. play h (g v) w)))
      at_cell None ih = same w.out
      at_cell (Some v) ih = ih v
  play_grows (Put l v a) w = play_grows a _
  play_grows (Say bs a) w = longer w.out (w.out ++ bs) _ (record { more = bs; whole = refl }) (play_grows a _)
  play_grows {A = A} (Take g) w = at_input w.input (λ x xs. play_grows (g x) (record w { input = xs }))
    where
      at_input : (xs : List ℤ) → ((x : ℤ) (xs : List ℤ) → Begins w.out (printed_by (play h (g x) (record w { input = xs })))) → Begins w.out (printed_by (with_input {A = A} xs w (λ x w1. play h (g x) w1)))
      at_input [] ih = same w.out
      at_input (x ∷ xs) ih = ih x xs
  play_grows (Ask s ds g) w = grows_then w.out (h s ds w) (λ r w1. play h (g r) w1) (hg s ds w) (λ r v. play_grows (g r) v)
  play_grows (Fail r) w = same w.out

  pub turns_grow : {S : Type 0} → (t : S → Act (After S)) (n : ℕ) (s : S) (w : World) → Begins w.out (printed_by (turns h t n s w))
  turns_grow t zero s w = same w.out
  turns_grow {S = S} t (suc n) s w = at_tick w.left (turns_grow t n)
    where
      at_tick : (m : ℕ) → ((s : S) (w : World) → Begins w.out (printed_by (turns h t n s w))) → Begins w.out (printed_by (ticked m w (λ w1. then_do (play h (t s) w1) (λ a w2. follow a w2 (turns h t n)))))
      at_tick zero ih = same w.out
      at_tick (suc m) ih = grows_then w.out (play h (t s) (record w { left = m })) _ (play_grows (t s) _) (elim [ Again s ↦ (λ v. ih s v) | Result r ↦ (λ v. same v.out) ])

  module _ (k : ℕ) (hx : (s : ℕ) (ds : List Interval) (w : World) → Extends k (h s ds w) (h s ds (with_more k w))) where
    pub play_extends : {A : Type 0} → (a : Act A) (w : World) → Extends k (play h a w) (play h a (with_more k w))
    play_extends (Done x) w = refl
    play_extends {A = A} (Get l g) w = at_cell (w.cells l) (λ v. play_extends (g v) w)
      where
        at_cell : (o : Option Value) → ((v : Value) → Extends k (play h (g v) w) (play h (g v) (with_more k w))) → Extends k (with_cell {A = A} o w (λ v. play h (g v) w)) (with_cell {A = A} o (with_more k w) (λ v. play h (g v) (with_more k w)))
        at_cell None ih = refl
        at_cell (Some v) ih = ih v
    play_extends (Put l v a) w = play_extends a (record w { cells = put_cell l v w.cells })
    play_extends (Say bs a) w = play_extends a (record w { out = w.out ++ bs })
    play_extends {A = A} (Take g) w = at_input w.input (λ x xs. play_extends (g x) (record w { input = xs }))
      where
        at_input : (xs : List ℤ) → ((x : ℤ) (xs : List ℤ) → Extends k (play h (g x) (record w { input = xs })) (play h (g x) (with_more k (record w { input = xs })))) → Extends k (with_input {A = A} xs w (λ x w1. play h (g x) w1)) (with_input {A = A} xs (with_more k w) (λ x w1. play h (g x) w1))
        at_input [] ih = refl
        at_input (x ∷ xs) ih = ih x xs
    play_extends (Ask s ds g) w = extends_then k (h s ds w) (h s ds (with_more k w)) (λ r w1. play h (g r) w1) (hx s ds w) (λ r v. play_extends (g r) v) (λ r v. play_grows (g r) v)
    play_extends (Fail Spent) w = same w.out
    play_extends (Fail (Ended e)) w = refl
    play_extends (Fail (Undefined c)) w = refl
    play_extends (Fail Stuck) w = refl

    pub turns_extend : {S : Type 0} → (t : S → Act (After S)) (n m : ℕ) → n ≤ m → (s : S) (w : World) → Extends k (turns h t n s w) (turns h t m s (with_more k w))
    turns_extend t zero m le s w = turns_grow t m s (with_more k w)
    turns_extend t (suc n) zero le s w = absurd (omega arith)
    turns_extend {S = S} t (suc n) (suc m) le s w = at_tick w.left refl (turns_extend t n m (omega arith))
      where
        go : S → World → Outcome Answer
        go s w1 = then_do (play h (t s) w1) (λ a w2. follow a w2 (turns h t m))

        at_tick : (i : ℕ) → w.left ≡ i → ((s : S) (w : World) → Extends k (turns h t n s w) (turns h t m s (with_more k w))) → Extends k (ticked i w (λ w1. then_do (play h (t s) w1) (λ a w2. follow a w2 (turns h t n)))) (turns h t (suc m) s (with_more k w))
        at_tick zero e ih = turns_grow t (suc m) s (with_more k w)
        at_tick (suc i) e ih =
            let z : w.left + k ≡ suc (i + k) = omega arith in
            subst (λ j. Extends k (then_do (play h (t s) (record w { left = i })) (λ a w2. follow a w2 (turns h t n))) (ticked j (with_more k w) (λ w1. then_do (play h (t s) w1) (λ a w2. follow a w2 (turns h t m))))) (sym z)
            (extends_fuel (play h (t s) (record w { left = i })) (play h (t s) (record w { left = i + k })) (play_extends (t s) (record w { left = i })) ih)
          where
            extends_fuel : (o o' : Outcome (After S)) → Extends k o o' → ((s : S) (w : World) → Extends k (turns h t n s w) (turns h t m s (with_more k w))) → Extends k (then_do o (λ a w2. follow a w2 (turns h t n))) (then_do o' (λ a w2. follow a w2 (turns h t m)))
            extends_fuel (Fine (Again s) v) o' x ih = subst (λ o. Extends k (turns h t n s v) (then_do o (λ a w2. follow a w2 (turns h t m)))) (sym x) (ih s v)
            extends_fuel (Fine (Result r) v) o' x ih = ap (λ o. then_do o (λ a w2. follow a w2 (turns h t m))) x
            extends_fuel (Stop Spent v) o' x ih = grows_then v.out o' (λ a w2. follow a w2 (turns h t m)) x (elim [ Again s ↦ (λ v. turns_grow t m s v) | Result r ↦ (λ v. same v.out) ])
            extends_fuel (Stop (Ended z) v) o' x ih = ap (λ o. then_do o (λ a w2. follow a w2 (turns h t m))) x
            extends_fuel (Stop (Undefined z) v) o' x ih = ap (λ o. then_do o (λ a w2. follow a w2 (turns h t m))) x
            extends_fuel (Stop Stuck v) o' x ih = ap (λ o. then_do o (λ a w2. follow a w2 (turns h t m))) x

pub answers : (n k : ℕ) (o o' : Outcome Answer) → Extends k o o' → RunExtends (answer n o) (answer (n + k) o')
answers n k (Fine x v) o' e = ap (answer (n + k)) e
answers n k (Stop Spent v) o' e = go o' e
  where
    go : (o' : Outcome Answer) → Begins v.out (printed_by o') → (answer (n + k) o' ≡ Wrong) ⊎ Begins v.out (text_of (answer (n + k) o'))
    go (Fine x v') b = inl refl
    go (Stop Spent v') b = inr b
    go (Stop (Ended z) v') b = inr b
    go (Stop (Undefined z) v') b = inr b
    go (Stop Stuck v') b = inl refl
answers n k (Stop (Ended z) v) o' e = ap (answer (n + k)) e
answers n k (Stop (Undefined z) v) o' e = ap (answer (n + k)) e ∙ (let z' : (n + k) - (v.left + k) ≡ n - v.left = omega arith in ap (λ s. UndefinedAt s z v.out) z')
answers n k (Stop Stuck v) o' e = ap (answer (n + k)) e

pub goes_on : GoesOnWithMoreSteps
goes_on turn s w k =
    let fuel : suc w.left ≤ suc (w.left + k) = omega arith in
    answers w.left k _ _ (turns_extend no_calls (λ s ds w. same w.out) k (λ s ds w. refl) turn (suc w.left) (suc (w.left + k)) fuel s w)

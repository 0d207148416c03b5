-- What is left of the steps: acts and turns never give any back, and a run with more steps either comes to the same end with as many
-- more left, or goes on into the steps that it has more.
use Rattle.std.proofs.Common.{◌≡◌, ℕ, zero, suc, ◌+◌, ◌<◌, ◌≤◌, List, [], ◌∷◌, ◌++◌, Option, Some, None, ℤ, ◌⊎◌, inl, inr, refl, sym, ap, subst, arith}
use Rattle.run_model.specs.Storage.{Value, Interval, put_cell}
use Rattle.run_model.specs.Acts.{World, Spent, Ended, Undefined, Stuck, Outcome, Fine, Stop, then_do, Act, Done, Get, Put, Say, Take, Ask, Fail, Answer, Handler, play, with_cell, with_input}
use Rattle.run_model.specs.Turns.{After, Again, Result, ticked, follow, turns, run_from}
use Rattle.run_model.proofs.Extend.{with_more}
use Rattle.f77_values.specs.Tables.{Name}
use Rattle.f77_semantics.specs.Program.{Routine}
use Rattle.f77_semantics.specs.Statements.{turn}
use Rattle.f77_semantics.specs.Units.{Program, entry, cleared, entered, beginning, run_unit, at_sites, meaning, callee}

abbrev pub left_of : {A : Type 0} → Outcome A → ℕ
left_of (Fine x v) = v.left
left_of (Stop r v) = v.left

abbrev pub IsSpent : {A : Type 0} → Outcome A → Type 0
IsSpent (Stop Spent v) = Unit {0}
IsSpent _ = ⊥

-- what an outcome with k steps more is
abbrev pub Tells : {A : Type 0} → ℕ → Outcome A → Outcome A → Type 0
Tells k (Fine x v) o = o ≡ Fine x (with_more k v)
Tells k (Stop Spent v) o = IsSpent o ⊎ (left_of o < k)
Tells k (Stop (Ended e) v) o = o ≡ Stop (Ended e) (with_more k v)
Tells k (Stop (Undefined c) v) o = o ≡ Stop (Undefined c) (with_more k v)
Tells k (Stop Stuck v) o = o ≡ Stop Stuck (with_more k v)

level : (n : ℕ) → n ≤ n
level n = omega arith

down : (a b c : ℕ) → a ≤ b → b ≤ c → a ≤ c
down a b c p q = omega arith

below : (a b c : ℕ) → a ≤ b → b < c → a < c
below a b c p q = omega arith

-- where no step was left, what is left is of those that came in
of_more : {P : Type 0} (a b k : ℕ) → b ≡ 0 → P ⊎ (a < b + k) → P ⊎ (a < k)
of_more a b k e (inl p) = inl p
of_more a b k e (inr q) = inr (omega arith)

falls_then : {A B : Type 0} → (n : ℕ) (o : Outcome A) (f : A → World → Outcome B) → left_of o ≤ n → ((x : A) (v : World) → left_of (f x v) ≤ v.left) → left_of (then_do o f) ≤ n
falls_then n (Fine x v) f b g = down (left_of (f x v)) v.left n (g x v) b
falls_then n (Stop r v) f b g = b

spent_then : {A B : Type 0} → (k : ℕ) (o : Outcome A) (f : A → World → Outcome B) → IsSpent o ⊎ (left_of o < k) → ((x : A) (v : World) → left_of (f x v) ≤ v.left) → IsSpent (then_do o f) ⊎ (left_of (then_do o f) < k)
spent_then k (Fine x v) f (inl p) g = absurd p
spent_then k (Fine x v) f (inr q) g = inr (below (left_of (f x v)) v.left k (g x v) q)
spent_then k (Stop Spent v) f p g = inl tt
spent_then k (Stop (Ended e) v) f p g = p
spent_then k (Stop (Undefined c) v) f p g = p
spent_then k (Stop Stuck v) f p g = p

-- What follows need be known only where no more steps are left than came in.
tells_then : {A B : Type 0} → (k n : ℕ) (o o' : Outcome A) (f g : A → World → Outcome B) → Tells k o o' → left_of o ≤ n
    → ((x : A) (v : World) → v.left ≤ n → Tells k (f x v) (g x (with_more k v))) → ((x : A) (v : World) → left_of (g x v) ≤ v.left) → Tells k (then_do o f) (then_do o' g)
tells_then k n (Fine x v) o' f g t b s h = subst (λ o. Tells k (f x v) (then_do o g)) (sym t) (s x v b)
tells_then k n (Stop Spent v) o' f g t b s h = spent_then k o' g t h
tells_then k n (Stop (Ended e) v) o' f g t b s h = ap (λ o. then_do o g) t
tells_then k n (Stop (Undefined c) v) o' f g t b s h = ap (λ o. then_do o g) t
tells_then k n (Stop Stuck v) o' f g t b s h = ap (λ o. then_do o g) t

module _ (h : Handler) (hf : (s : ℕ) (ds : List Interval) (w : World) → left_of (h s ds w) ≤ w.left) where
  play_falls : {A : Type 0} → (a : Act A) (w : World) → left_of (play h a w) ≤ w.left
  play_falls (Done x) w = level w.left
  play_falls {A = A} (Get l g) w = at_cell (w.cells l) (λ v. play_falls (g v) w)
    where
      at_cell : (o : Option Value) → ((v : Value) → left_of (play h (g v) w) ≤ w.left) → left_of (with_cell {A = A} o w (λ v. play h (g v) w)) ≤ w.left
      at_cell None ih = level w.left
      at_cell (Some v) ih = ih v
  play_falls (Put l v a) w = play_falls a (record w { cells = put_cell l v w.cells })
  play_falls (Say bs a) w = play_falls a (record w { out = w.out ++ bs })
  play_falls {A = A} (Take g) w = at_input w.input (λ x xs. play_falls (g x) (record w { input = xs }))
    where
      at_input : (xs : List ℤ) → ((x : ℤ) (xs : List ℤ) → left_of (play h (g x) (record w { input = xs })) ≤ w.left) → left_of (with_input {A = A} xs w (λ x w1. play h (g x) w1)) ≤ w.left
      at_input [] ih = level w.left
      at_input (x ∷ xs) ih = ih x xs
  play_falls (Ask s ds g) w = falls_then w.left (h s ds w) (λ r w1. play h (g r) w1) (hf s ds w) (λ r v. play_falls (g r) v)
  play_falls (Fail r) w = level w.left

  after_falls : {S : Type 0} → (t : S → Act (After S)) (n : ℕ) → ((s : S) (w : World) → left_of (turns h t n s w) ≤ w.left) → (a : After S) (v : World) → left_of (follow a v (turns h t n)) ≤ v.left
  after_falls t n ih (Again s) v = ih s v
  after_falls t n ih (Result r) v = level v.left

  -- A turn that begins takes a step.
  begun_falls : {S : Type 0} → (t : S → Act (After S)) (n : ℕ) → ((s : S) (w : World) → left_of (turns h t n s w) ≤ w.left) → (s : S) (w : World) → left_of (then_do (play h (t s) w) (λ a v. follow a v (turns h t n))) ≤ w.left
  begun_falls t n ih s w = falls_then w.left (play h (t s) w) (λ a v. follow a v (turns h t n)) (play_falls (t s) w) (after_falls t n ih)

  turns_fall : {S : Type 0} → (t : S → Act (After S)) (n : ℕ) (s : S) (w : World) → left_of (turns h t n s w) ≤ w.left
  turns_fall t zero s w = level w.left
  turns_fall {S = S} t (suc n) s w = at_tick w.left refl (turns_fall t n)
    where
      at_tick : (m : ℕ) → w.left ≡ m → ((s : S) (w : World) → left_of (turns h t n s w) ≤ w.left) → left_of (ticked m w (λ w1. then_do (play h (t s) w1) (λ a v. follow a v (turns h t n)))) ≤ w.left
      at_tick zero e ih = level w.left
      at_tick (suc m) e ih = down _ m w.left (begun_falls t n ih s (record w { left = m })) (omega arith)

  turns_spend : {S : Type 0} → (t : S → Act (After S)) (n : ℕ) (s : S) (w : World) → IsSpent (turns h t n s w) ⊎ (left_of (turns h t n s w) < w.left)
  turns_spend t zero s w = inl tt
  turns_spend {S = S} t (suc n) s w = at_tick w.left refl
    where
      go : World → Outcome Answer
      go w1 = then_do (play h (t s) w1) (λ a v. follow a v (turns h t n))

      at_tick : (m : ℕ) → w.left ≡ m → IsSpent (ticked m w go) ⊎ (left_of (ticked m w go) < w.left)
      at_tick zero e = inl tt
      at_tick (suc m) e = inr (below (left_of (go (record w { left = m }))) m w.left (begun_falls t n (turns_fall t n) s (record w { left = m })) (omega arith))

  module _ (k : ℕ) (ht : (s : ℕ) (ds : List Interval) (w : World) → Tells k (h s ds w) (h s ds (with_more k w))) where
    play_tells : {A : Type 0} → (a : Act A) (w : World) → Tells k (play h a w) (play h a (with_more k w))
    play_tells (Done x) w = refl
    play_tells {A = A} (Get l g) w = at_cell (w.cells l) (λ v. play_tells (g v) w)
      where
        at_cell : (o : Option Value) → ((v : Value) → Tells k (play h (g v) w) (play h (g v) (with_more k w))) → Tells k (with_cell {A = A} o w (λ v. play h (g v) w)) (with_cell {A = A} o (with_more k w) (λ v. play h (g v) (with_more k w)))
        at_cell None ih = refl
        at_cell (Some v) ih = ih v
    play_tells (Put l v a) w = play_tells a (record w { cells = put_cell l v w.cells })
    play_tells (Say bs a) w = play_tells a (record w { out = w.out ++ bs })
    play_tells {A = A} (Take g) w = at_input w.input (λ x xs. play_tells (g x) (record w { input = xs }))
      where
        at_input : (xs : List ℤ) → ((x : ℤ) (xs : List ℤ) → Tells k (play h (g x) (record w { input = xs })) (play h (g x) (with_more k (record w { input = xs })))) → Tells k (with_input {A = A} xs w (λ x w1. play h (g x) w1)) (with_input {A = A} xs (with_more k w) (λ x w1. play h (g x) w1))
        at_input [] ih = refl
        at_input (x ∷ xs) ih = ih x xs
    play_tells (Ask s ds g) w = tells_then k w.left (h s ds w) (h s ds (with_more k w)) (λ r w1. play h (g r) w1) (λ r w1. play h (g r) w1) (ht s ds w) (hf s ds w) (λ r v b. play_tells (g r) v) (λ r v. play_falls (g r) v)
    play_tells (Fail Spent) w = inl tt
    play_tells (Fail (Ended e)) w = refl
    play_tells (Fail (Undefined c)) w = refl
    play_tells (Fail Stuck) w = refl

    -- With more turns than steps, the steps run out first.
    turns_tell : {S : Type 0} → (t : S → Act (After S)) (n m : ℕ) → n ≤ m → (s : S) (w : World) → w.left < n → Tells k (turns h t n s w) (turns h t m s (with_more k w))
    turns_tell t zero m le s w lt = absurd (omega arith)
    turns_tell t (suc n) zero le s w lt = absurd (omega arith)
    turns_tell {S = S} t (suc n) (suc m) le s w lt = at_tick w.left refl (turns_tell t n m (omega arith))
      where
        then_ : ℕ → World → Outcome Answer
        then_ j w1 = then_do (play h (t s) w1) (λ a v. follow a v (turns h t j))

        at_tick : (i : ℕ) → w.left ≡ i → ((s : S) (w : World) → w.left < n → Tells k (turns h t n s w) (turns h t m s (with_more k w))) → Tells k (ticked i w (then_ n)) (turns h t (suc m) s (with_more k w))
        at_tick zero e ih = of_more (left_of (turns h t (suc m) s (with_more k w))) w.left k e (turns_spend t (suc m) s (with_more k w))
        at_tick (suc i) e ih =
            let z : w.left + k ≡ suc (i + k) = omega arith in
            let lower : i < n = omega arith in
            subst (λ j. Tells k (then_ n (record w { left = i })) (ticked j (with_more k w) (then_ m))) (sym z)
            (tells_then k i (play h (t s) (record w { left = i })) (play h (t s) (record w { left = i + k })) (λ a v. follow a v (turns h t n)) (λ a v. follow a v (turns h t m)) (play_tells (t s) (record w { left = i })) (play_falls (t s) (record w { left = i })) (λ a v b. next a v (below v.left i n b lower)) (after_falls t m (turns_fall t m)))
          where
            next : (a : After S) (v : World) → v.left < n → Tells k (follow a v (turns h t n)) (follow a (with_more k v) (turns h t m))
            next (Again s) v lt = ih s v lt
            next (Result r) v lt = refl

-- ---- units and programs

unit_falls : (h : Handler) → ((s : ℕ) (ds : List Interval) (w : World) → left_of (h s ds w) ≤ w.left) → (u : Routine) (ds : List Interval) (w : World) → left_of (run_unit h u ds w) ≤ w.left
unit_falls h hf u ds w = falls_then w.left (play h (entry (entered u ds) u.dummy_arrays) (cleared u w)) (λ f w1. run_from h (turn u f) (beginning u) w1) (play_falls h hf (entry (entered u ds) u.dummy_arrays) (cleared u w)) (λ f v. turns_fall h hf (turn u f) (suc v.left) (beginning u) v)

unit_tells : (h : Handler) → ((s : ℕ) (ds : List Interval) (w : World) → left_of (h s ds w) ≤ w.left) → (k : ℕ) → ((s : ℕ) (ds : List Interval) (w : World) → Tells k (h s ds w) (h s ds (with_more k w))) → (u : Routine) (ds : List Interval) (w : World) → Tells k (run_unit h u ds w) (run_unit h u ds (with_more k w))
unit_tells h hf k ht u ds w = tells_then k w.left (play h (entry (entered u ds) u.dummy_arrays) (cleared u w)) (play h (entry (entered u ds) u.dummy_arrays) (with_more k (cleared u w))) (λ f w1. run_from h (turn u f) (beginning u) w1) (λ f w1. run_from h (turn u f) (beginning u) w1)
    (play_tells h hf k ht (entry (entered u ds) u.dummy_arrays) (cleared u w)) (play_falls h hf (entry (entered u ds) u.dummy_arrays) (cleared u w))
    (λ f v b. turns_tell h hf k ht (turn u f) (suc v.left) (suc (v.left + k)) (omega arith) (beginning u) v (omega arith)) (λ f v. turns_fall h hf (turn u f) (suc v.left) (beginning u) v)

pub meaning_falls : (units : Program) (d : ℕ) (q : Name) (ds : List Interval) (w : World) → left_of (meaning units d q ds w) ≤ w.left
meaning_falls units zero q ds w = level w.left
meaning_falls units (suc d) q ds w = unit_falls (at_sites (units q) (meaning units d)) (λ s ds w. meaning_falls units d (callee (units q) s) ds w) (units q) ds w

pub meaning_tells : (k : ℕ) (units : Program) (d : ℕ) (q : Name) (ds : List Interval) (w : World) → Tells k (meaning units d q ds w) (meaning units d q ds (with_more k w))
meaning_tells k units zero q ds w = refl
meaning_tells k units (suc d) q ds w = unit_tells (at_sites (units q) (meaning units d)) (λ s ds w. meaning_falls units d (callee (units q) s) ds w) k (λ s ds w. meaning_tells k units d (callee (units q) s) ds w) (units q) ds w

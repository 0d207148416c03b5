-- A tree stays where what it reads, stores to and passes has these properties, whatever is read and answered; and then so does the run of it.
use Rattle.std.proofs.Common.{ℕ, zero, suc, ◌++◌, List, [], ◌∷◌, Option, Some, None, ℤ}
use Rattle.run_model.specs.Storage.{Value, Loc, Interval, put_cell}
use Rattle.run_model.specs.Acts.{World, Outcome, Fine, Stop, then_do, Act, Done, Get, Put, Say, Take, Ask, Fail, and_then, Answer, Handler, play, with_cell, with_input}
use Rattle.run_model.specs.Turns.{After, Again, Result}
use Rattle.area_laws.specs.Touches.{Every, AtCell, AtInput, Behind, AtStep, AtNext, PlayTouches, TurnsTouch}

module _ (P : Loc → Type 0) (Q : Interval → Type 0) where
  abbrev pub Stays : {A : Type 0} → (A → Type 0) → Act A → Type 0
  Stays R (Done a) = R a
  Stays R (Get l k) = P l × ((v : Value) → Stays R (k v))
  Stays R (Put l v a) = P l × Stays R a
  Stays R (Say bs a) = Stays R a
  Stays R (Take k) = (x : ℤ) → Stays R (k x)
  Stays R (Ask s ds k) = Every Q ds × ((r : Answer) → Stays R (k r))
  Stays R (Fail r) = Unit {0}

  pub stays_then : {A B : Type 0} → (R : A → Type 0) (T : B → Type 0) (a : Act A) (f : A → Act B) → Stays R a → ((x : A) → R x → Stays T (f x)) → Stays T (and_then a f)
  stays_then R T (Done a) f h g = g a h
  stays_then R T (Get l k) f h g = (h.0, λ v. stays_then R T (k v) f (h.1 v) g)
  stays_then R T (Put l v a) f h g = (h.0, stays_then R T a f h.1 g)
  stays_then R T (Say bs a) f h g = stays_then R T a f h g
  stays_then R T (Take k) f h g = λ x. stays_then R T (k x) f (h x) g
  stays_then R T (Ask s ds k) f h g = (h.0, λ r. stays_then R T (k r) f (h.1 r) g)
  stays_then R T (Fail r) f h g = tt

  pub behind_all : {A : Type 0} → (R : A → World → Type 0) (o : Outcome A) → ((x : A) (v : World) → R x v) → Behind o R
  behind_all R (Fine x v) g = g x v
  behind_all R (Stop r v) g = tt

  pub behind_weaker : {A : Type 0} → (R T : A → World → Type 0) (o : Outcome A) → Behind o R → ((x : A) (v : World) → R x v → T x v) → Behind o T
  behind_weaker R T (Fine x v) h g = g x v h
  behind_weaker R T (Stop r v) h g = tt

  behind_then : {A B : Type 0} → (R : B → World → Type 0) (o : Outcome A) (f : A → World → Outcome B) → ((x : A) (v : World) → Behind (f x v) R) → Behind (then_do o f) R
  behind_then R (Fine x v) f g = g x v
  behind_then R (Stop r v) f g = tt

  module _ (h : Handler) where
    -- what a tree ends with has the property
    pub results : {A : Type 0} → (R : A → Type 0) (a : Act A) → Stays R a → (w : World) → Behind (play h a w) (λ x v. R x)
    results R (Done x) s w = s
    results {A = A} R (Get l k) s w = at_cell (w.cells l) (λ v. results R (k v) (s.1 v) w)
      where
        at_cell : (o : Option Value) → ((v : Value) → Behind (play h (k v) w) (λ x v. R x)) → Behind (with_cell {A = A} o w (λ v. play h (k v) w)) (λ x v. R x)
        at_cell None ih = tt
        at_cell (Some v) ih = ih v
    results R (Put l v a) s w = results R a s.1 (record w { cells = put_cell l v w.cells })
    results R (Say bs a) s w = results R a s (record w { out = w.out ++ bs })
    results {A = A} R (Take k) s w = at_input w.input (λ x xs. results R (k x) (s x) (record w { input = xs }))
      where
        at_input : (xs : List ℤ) → ((x : ℤ) (xs : List ℤ) → Behind (play h (k x) (record w { input = xs })) (λ x v. R x)) → Behind (with_input {A = A} xs w (λ x w1. play h (k x) w1)) (λ x v. R x)
        at_input [] ih = tt
        at_input (x ∷ xs) ih = ih x xs
    results R (Ask s ds k) t w = behind_then (λ x v. R x) (h s ds w) (λ r w1. play h (k r) w1) (λ r v. results R (k r) (t.1 r) v)
    results R (Fail r) s w = tt

    module _ (C : ℕ → List Interval → World → Type 0) (calls : (s : ℕ) (ds : List Interval) (w : World) → Every Q ds → C s ds w) where
      pub plays : {A : Type 0} → (R : A → Type 0) (a : Act A) → Stays R a → (w : World) → PlayTouches P Q h C a w
      plays R (Done x) s w = tt
      plays R (Get l k) s w = (s.0, at_cell (w.cells l) (λ v. plays R (k v) (s.1 v) w))
        where
          at_cell : (o : Option Value) → ((v : Value) → PlayTouches P Q h C (k v) w) → AtCell o (λ v. PlayTouches P Q h C (k v) w)
          at_cell None ih = tt
          at_cell (Some v) ih = ih v
      plays R (Put l v a) s w = (s.0, plays R a s.1 (record w { cells = put_cell l v w.cells }))
      plays R (Say bs a) s w = plays R a s (record w { out = w.out ++ bs })
      plays R (Take k) s w = at_input w.input (λ x xs. plays R (k x) (s x) (record w { input = xs }))
        where
          at_input : (xs : List ℤ) → ((x : ℤ) (xs : List ℤ) → PlayTouches P Q h C (k x) (record w { input = xs })) → AtInput xs w (λ x w1. PlayTouches P Q h C (k x) w1)
          at_input [] ih = tt
          at_input (x ∷ xs) ih = ih x xs
      plays R (Ask s ds k) t w = (t.0, calls s ds w t.0, behind_all (λ r w1. PlayTouches P Q h C (k r) w1) (h s ds w) (λ r v. plays R (k r) (t.1 r) v))
      plays R (Fail r) s w = tt

      pub turns_stay : {S : Type 0} → (t : S → Act (After S)) → ((s : S) → Stays (λ a. Unit {0}) (t s)) → (n : ℕ) (s : S) (w : World) → TurnsTouch P Q h C t n s w
      turns_stay t each zero s w = tt
      turns_stay {S = S} t each (suc n) s w = at_step w.left (turns_stay t each n)
        where
          next : (a : After S) (v : World) → ((s : S) (w : World) → TurnsTouch P Q h C t n s w) → AtNext a v (TurnsTouch P Q h C t n)
          next (Again s) v ih = ih s v
          next (Result r) v ih = tt

          at_step : (m : ℕ) → ((s : S) (w : World) → TurnsTouch P Q h C t n s w) → AtStep m w (λ w1. PlayTouches P Q h C (t s) w1 × Behind (play h (t s) w1) (λ a w2. AtNext a w2 (TurnsTouch P Q h C t n)))
          at_step zero ih = tt
          at_step (suc m) ih = (
            plays (λ a. Unit {0}) (t s) (each s) (record w { left = m }),
            behind_all (λ a w2. AtNext a w2 (TurnsTouch P Q h C t n)) (play h (t s) (record w { left = m })) (λ a v. next a v ih),
          )

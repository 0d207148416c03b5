-- Acts that store integers of 64 bits alone, wherever they read, take and are answered such.
use Rattle.std.proofs.Common.{◌≡◌, ℕ, zero, suc, List, [], ◌∷◌, ◌++◌, Option, Some, None, Bool, true, false, cond, ℤ, refl, subst}
use Rattle.run_model.specs.Storage.{Value, Loc, Interval, loc_eq, put_cell}
use Rattle.run_model.specs.Acts.{World, Outcome, Fine, Stop, then_do, Act, Done, Get, Put, Say, Take, Ask, Fail, and_then, Answer, Handler, play, with_cell, with_input}
use Rattle.run_model.specs.Turns.{After, Again, Result, ticked, follow, turns}
use Rattle.run_inputs.specs.Inputs.{IsWord64, AllWord64}
use Rattle.word_laws.specs.Words.{HasWord64, InWord64, AnswersWord64, EndsInWord64}

abbrev pub Keeps : {A : Type 0} → (A → Type 0) → Act A → Type 0
Keeps Q (Done a) = Q a
Keeps Q (Get l k) = (v : Value) → HasWord64 v → Keeps Q (k v)
Keeps Q (Put l v a) = HasWord64 v × Keeps Q a
Keeps Q (Say bs a) = Keeps Q a
Keeps Q (Take k) = (x : ℤ) → IsWord64 x → Keeps Q (k x)
Keeps Q (Ask s ds k) = (r : Answer) → AnswersWord64 r → Keeps Q (k r)
Keeps Q (Fail r) = Unit {0}

-- nothing is asked of what they end with
abbrev pub Any : {A : Type 0} → A → Type 0
Any a = Unit {0}

pub bind : {A B : Type 0} → (P : A → Type 0) (Q : B → Type 0) (a : Act A) (f : A → Act B) → Keeps P a → ((x : A) → P x → Keeps Q (f x)) → Keeps Q (and_then a f)
bind P Q (Done x) f k g = g x k
bind P Q (Get l n) f k g = λ v b. bind P Q (n v) f (k v b) g
bind P Q (Put l v a) f k g = (k.0, bind P Q a f k.1 g)
bind P Q (Say bs a) f k g = bind P Q a f k g
bind P Q (Take n) f k g = λ x b. bind P Q (n x) f (k x b) g
bind P Q (Ask s ds n) f k g = λ r b. bind P Q (n r) f (k r b) g
bind P Q (Fail r) f k g = tt

-- ---- outcomes

abbrev pub Ends : {A : Type 0} → (A → Type 0) → Outcome A → Type 0
Ends Q (Fine x w) = Q x × InWord64 w
Ends Q (Stop r w) = InWord64 w

pub ends_then : {A B : Type 0} → (P : A → Type 0) (Q : B → Type 0) (o : Outcome A) (f : A → World → Outcome B) → Ends P o → ((x : A) (w : World) → P x → InWord64 w → Ends Q (f x w)) → Ends Q (then_do o f)
ends_then P Q (Fine x w) f e g = g x w e.0 e.1
ends_then P Q (Stop r w) f e g = e

put_keeps : (l : Loc) (x : Value) (w : World) → HasWord64 x → InWord64 w → InWord64 (record w { cells = put_cell l x w.cells })
put_keeps l x w h i = record { cells = λ m v e. go m v (loc_eq l m) e; input = i.input }
  where
    go : (m : Loc) (v : Value) (b : Bool) → cond b (Some x) (w.cells m) ≡ Some v → HasWord64 v
    go m v true e = let z : x ≡ v = cc in subst HasWord64 z h
    go m v false e = i.cells m v e

-- what a turn answers
abbrev pub AfterIs : {S : Type 0} → After S → Type 0
AfterIs (Again s) = Unit {0}
AfterIs (Result r) = AnswersWord64 r

module _ (h : Handler) (hs : (s : ℕ) (ds : List Interval) (w : World) → InWord64 w → EndsInWord64 (h s ds w)) where
  pub play_keeps : {A : Type 0} → (Q : A → Type 0) (a : Act A) → Keeps Q a → (w : World) → InWord64 w → Ends Q (play h a w)
  play_keeps Q (Done x) k w i = (k, i)
  play_keeps {A = A} Q (Get l g) k w i = at_cell (w.cells l) refl (λ v b. play_keeps Q (g v) (k v b) w i)
    where
      at_cell : (o : Option Value) → w.cells l ≡ o → ((v : Value) → HasWord64 v → Ends Q (play h (g v) w)) → Ends Q (with_cell {A = A} o w (λ v. play h (g v) w))
      at_cell None e ih = i
      at_cell (Some v) e ih = ih v (i.cells l v e)
  play_keeps Q (Put l v a) k w i = play_keeps Q a k.1 (record w { cells = put_cell l v w.cells }) (put_keeps l v w k.0 i)
  play_keeps Q (Say bs a) k w i = play_keeps Q a k (record w { out = w.out ++ bs }) (record { cells = i.cells; input = i.input })
  play_keeps {A = A} Q (Take g) k w i = at_input w.input i.input (λ x xs b bs. play_keeps Q (g x) (k x b) (record w { input = xs }) (record { cells = i.cells; input = bs }))
    where
      at_input : (xs : List ℤ) → AllWord64 xs → ((x : ℤ) (xs : List ℤ) → IsWord64 x → AllWord64 xs → Ends Q (play h (g x) (record w { input = xs }))) → Ends Q (with_input {A = A} xs w (λ x w1. play h (g x) w1))
      at_input [] b ih = i
      at_input (x ∷ xs) b ih = ih x xs b.0 b.1
  play_keeps Q (Ask s ds g) k w i = ends_then AnswersWord64 Q (h s ds w) (λ r w1. play h (g r) w1) (so (h s ds w) (hs s ds w i)) (λ r v b j. play_keeps Q (g r) (k r b) v j)
    where
      so : (o : Outcome Answer) → EndsInWord64 o → Ends AnswersWord64 o
      so (Fine x v) e = e
      so (Stop r v) e = e
  play_keeps Q (Fail r) k w i = i

  pub turns_keep : {S : Type 0} → (t : S → Act (After S)) → ((s : S) → Keeps AfterIs (t s)) → (n : ℕ) (s : S) (w : World) → InWord64 w → Ends AnswersWord64 (turns h t n s w)
  turns_keep t k zero s w i = i
  turns_keep {S = S} t k (suc n) s w i = at_tick w.left (turns_keep t k n)
    where
      at_tick : (m : ℕ) → ((s : S) (w : World) → InWord64 w → Ends AnswersWord64 (turns h t n s w)) → Ends AnswersWord64 (ticked m w (λ w1. then_do (play h (t s) w1) (λ a v. follow a v (turns h t n))))
      at_tick zero ih = i
      at_tick (suc m) ih = ends_then AfterIs AnswersWord64 (play h (t s) (record w { left = m })) (λ a v. follow a v (turns h t n)) (play_keeps AfterIs (t s) (k s) (record w { left = m }) (record { cells = i.cells; input = i.input })) next
        where
          next : (a : After S) (v : World) → AfterIs a → InWord64 v → Ends AnswersWord64 (follow a v (turns h t n))
          next (Again s) v b j = ih s v j
          next (Result r) v b j = (b, j)

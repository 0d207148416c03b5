-- A tree reads, writes and calls only what it may, never is stuck, and what it gives has a property.
use Rattle.std.proofs.Common.{ℕ, List, ℤ}
use Rattle.run_model.specs.Storage.{Value, Loc, Interval}
use Rattle.run_model.specs.Acts.{Spent, Ended, Undefined, Stuck, Act, Done, Get, Put, Say, Take, Ask, Fail, and_then, Answer}

-- what may be read, written and asked, and what a site may answer
module _ (L M : Loc → Type 0) (C : ℕ → List Interval → Type 0) (R : ℕ → Answer → Type 0) where
  abbrev pub Keeps : {A : Type 0} → (A → Type 0) → Act A → Type 0
  Keeps Q (Done a) = Q a
  Keeps Q (Get l k) = L l × ((v : Value) → Keeps Q (k v))
  Keeps Q (Put l v a) = M l × Keeps Q a
  Keeps Q (Say bs a) = Keeps Q a
  Keeps Q (Take k) = (x : ℤ) → Keeps Q (k x)
  Keeps Q (Ask s ds k) = C s ds × ((r : Answer) → R s r → Keeps Q (k r))
  Keeps Q (Fail Spent) = Unit {0}
  Keeps Q (Fail (Ended e)) = Unit {0}
  Keeps Q (Fail (Undefined c)) = Unit {0}
  Keeps Q (Fail Stuck) = ⊥

  pub bind : {A B : Type 0} → (P : A → Type 0) (Q : B → Type 0) (a : Act A) (f : A → Act B) → Keeps P a → ((x : A) → P x → Keeps Q (f x)) → Keeps Q (and_then a f)
  bind P Q (Done a) f w g = g a w
  bind P Q (Get l k) f w g = (w.0, λ v. bind P Q (k v) f (w.1 v) g)
  bind P Q (Put l v a) f w g = (w.0, bind P Q a f w.1 g)
  bind P Q (Say bs a) f w g = bind P Q a f w g
  bind P Q (Take k) f w g = λ x. bind P Q (k x) f (w x) g
  bind P Q (Ask s ds k) f w g = (w.0, λ r p. bind P Q (k r) f (w.1 r p) g)
  bind P Q (Fail Spent) f w g = tt
  bind P Q (Fail (Ended e)) f w g = tt
  bind P Q (Fail (Undefined c)) f w g = tt
  bind P Q (Fail Stuck) f w g = w

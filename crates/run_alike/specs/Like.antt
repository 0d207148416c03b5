-- When one act does what another does, whatever its handler is and whatever it reads.
use Rattle.std.specs.Prelude.{◌≡◌, ℕ, List, ℤ}
use Rattle.run_model.specs.Storage.{Value, Loc, Interval}
use Rattle.run_model.specs.Acts.{Spent, Ended, Undefined, Stuck, Act, Done, Get, Put, Say, Take, Ask, Fail, Answer}
use Rattle.run_model.specs.Turns.{After, Again, Result}

-- The second tree does what the first does, and what they end with is related. Where the first is undefined the second does anything.
pub data Like {A B : Type 0} (R : A → B → Type 0) : Act A → Act B → Type 0 where
  undefined : {c : ℕ} {b : Act B} → Like R (Fail (Undefined c)) b
  stuck : {b : Act B} → Like R (Fail Stuck) b
  ended : {status : ℕ} → Like R (Fail (Ended status)) (Fail (Ended status))
  spent : Like R (Fail Spent) (Fail Spent)
  done : {x : A} {y : B} → R x y → Like R (Done x) (Done y)
  get : {l : Loc} {k : Value → Act A} {j : Value → Act B} → ((v : Value) → Like R (k v) (j v)) → Like R (Get l k) (Get l j)
  put : {l : Loc} {v : Value} {a : Act A} {b : Act B} → Like R a b → Like R (Put l v a) (Put l v b)
  say : {bs : List ℕ} {a : Act A} {b : Act B} → Like R a b → Like R (Say bs a) (Say bs b)
  take : {k : ℤ → Act A} {j : ℤ → Act B} → ((x : ℤ) → Like R (k x) (j x)) → Like R (Take k) (Take j)
  ask : {s : ℕ} {ds : List Interval} {k : Answer → Act A} {j : Answer → Act B} → ((r : Answer) → Like R (k r) (j r)) → Like R (Ask s ds k) (Ask s ds j)

-- both go on, in states that are related, or both return the same answer
abbrev pub LikeAfter : {S T : Type 0} → (S → T → Type 0) → After S → After T → Type 0
LikeAfter R (Again s) (Again t) = R s t
LikeAfter R (Result x) (Result y) = x ≡ y
LikeAfter R (Again s) (Result y) = ⊥
LikeAfter R (Result x) (Again t) = ⊥

-- It reads at most, and is undefined or gives something.
abbrev pub IsSilent : {A : Type 0} → Act A → Type 0
IsSilent (Done x) = Unit {0}
IsSilent (Get l k) = (v : Value) → IsSilent (k v)
IsSilent (Fail (Undefined c)) = Unit {0}
IsSilent (Fail Stuck) = Unit {0}
IsSilent _ = ⊥

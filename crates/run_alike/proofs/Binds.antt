-- How acts that are alike go on, and how a run goes on behind an act.
use Rattle.std.proofs.Common.{◌≡◌, ℕ, zero, suc, List, [], ◌∷◌, Option, Some, None, ℤ, refl}
use Rattle.run_model.specs.Storage.{Value}
use Rattle.run_model.specs.Acts.{World, Outcome, Fine, Stop, then_do, Act, Done, Get, Put, Say, Take, Ask, Fail, and_then, Answer, Handler, play, with_cell, with_input}
use Rattle.run_model.specs.Turns.{After, Again, Result}
use Rattle.run_alike.specs.Like.{Like, undefined, stuck, ended, spent, done, get, put, say, take, ask, LikeAfter, IsSilent}
use Rattle.run_alike.specs.Alike.{AlikeFor, with_first, GoesOnAlike, EntersAlike}

-- one act after another, where each is like its other
pub like_then : {A B C D : Type 0} → (R : A → B → Type 0) (Q : C → D → Type 0) (a : Act A) (b : Act B) (f : A → Act C) (g : B → Act D) → Like R a b → ((x : A) (y : B) → R x y → Like Q (f x) (g y)) → Like Q (and_then a f) (and_then b g)
like_then R Q a b f g undefined k = undefined
like_then R Q a b f g stuck k = stuck
like_then R Q a b f g ended k = ended
like_then R Q a b f g spent k = spent
like_then R Q a b f g (done {x = x} {y = y} r) k = k x y r
like_then R Q a b f g (get {k = i} {j = j} p) k = get (λ v. like_then R Q (i v) (j v) f g (p v) k)
like_then R Q a b f g (put {a = c} {b = d} p) k = put (like_then R Q c d f g p k)
like_then R Q a b f g (say {a = c} {b = d} p) k = say (like_then R Q c d f g p k)
like_then R Q a b f g (take {k = i} {j = j} p) k = take (λ x. like_then R Q (i x) (j x) f g (p x) k)
like_then R Q a b f g (ask {k = i} {j = j} p) k = ask (λ r. like_then R Q (i r) (j r) f g (p r) k)

pub like_map : {A B : Type 0} → (R Q : A → B → Type 0) (a : Act A) (b : Act B) → ((x : A) (y : B) → R x y → Q x y) → Like R a b → Like Q a b
like_map R Q a b f undefined = undefined
like_map R Q a b f stuck = stuck
like_map R Q a b f ended = ended
like_map R Q a b f spent = spent
like_map R Q a b f (done {x = x} {y = y} r) = done (f x y r)
like_map R Q a b f (get {k = i} {j = j} p) = get (λ v. like_map R Q (i v) (j v) f (p v))
like_map R Q a b f (put {a = c} {b = d} p) = put (like_map R Q c d f p)
like_map R Q a b f (say {a = c} {b = d} p) = say (like_map R Q c d f p)
like_map R Q a b f (take {k = i} {j = j} p) = take (λ x. like_map R Q (i x) (j x) f (p x))
like_map R Q a b f (ask {k = i} {j = j} p) = ask (λ r. like_map R Q (i r) (j r) f (p r))

after_map : {S T : Type 0} → (R Q : S → T → Type 0) → ((s : S) (t : T) → R s t → Q s t) → (a : After S) (b : After T) → LikeAfter R a b → LikeAfter Q a b
after_map R Q f (Again s) (Again t) p = f s t p
after_map R Q f (Result x) (Result y) p = p
after_map R Q f (Again s) (Result y) p = absurd p
after_map R Q f (Result x) (Again t) p = absurd p

-- A relation between states that each turn keeps makes the machines alike for any number of turns.
pub kept_alike : {S T : Type 0} → (R : S → T → Type 0) (turn : S → Act (After S)) (other : T → Act (After T)) → ((s : S) (t : T) → R s t → Like (LikeAfter R) (turn s) (other t)) → (n : ℕ) (s : S) (t : T) → R s t → AlikeFor turn other n s t
kept_alike R turn other keeps zero s t r = tt
kept_alike R turn other keeps (suc n) s t r = like_map (LikeAfter R) (LikeAfter (AlikeFor turn other n)) (turn s) (other t) (after_map R (AlikeFor turn other n) (kept_alike R turn other keeps n)) (keeps s t r)

-- a run behind one act after another
pub play_then : {A B C : Type 0} → (h : Handler) (a : Act A) (f : A → Act B) (w : World) (k : B → World → Outcome C) → then_do (play h (and_then a f) w) k ≡ then_do (play h a w) (λ x v. then_do (play h (f x) v) k)
play_then h (Done a) f w k = refl
play_then {A = A} {B = B} h (Get l g) f w k = at_cell (w.cells l) (λ v. play_then h (g v) f w k)
  where
    at_cell : (o : Option Value) → ((v : Value) → then_do (play h (and_then (g v) f) w) k ≡ then_do (play h (g v) w) (λ x v. then_do (play h (f x) v) k)) → then_do (with_cell {A = B} o w (λ v. play h (and_then (g v) f) w)) k ≡ then_do (with_cell {A = A} o w (λ v. play h (g v) w)) (λ x v. then_do (play h (f x) v) k)
    at_cell None ih = refl
    at_cell (Some v) ih = ih v
play_then h (Put l v a) f w k = play_then h a f _ k
play_then h (Say bs a) f w k = play_then h a f _ k
play_then {A = A} {B = B} h (Take g) f w k = at_input w.input (λ x v. play_then h (g x) f v k)
  where
    at_input : (xs : List ℤ) → ((x : ℤ) (v : World) → then_do (play h (and_then (g x) f) v) k ≡ then_do (play h (g x) v) (λ x v. then_do (play h (f x) v) k)) → then_do (with_input {A = B} xs w (λ x v. play h (and_then (g x) f) v)) k ≡ then_do (with_input {A = A} xs w (λ x v. play h (g x) v)) (λ x v. then_do (play h (f x) v) k)
    at_input [] ih = refl
    at_input (x ∷ xs) ih = ih x _
play_then {A = A} {B = B} h (Ask s ds g) f w k = at_answer (h s ds w) (λ x v. play_then h (g x) f v k)
  where
    at_answer : (o : Outcome Answer) → ((x : Answer) (v : World) → then_do (play h (and_then (g x) f) v) k ≡ then_do (play h (g x) v) (λ x v. then_do (play h (f x) v) k)) → then_do (then_do {A = Answer} {B = B} o (λ x v. play h (and_then (g x) f) v)) k ≡ then_do (then_do {A = Answer} {B = A} o (λ x v. play h (g x) v)) (λ x v. then_do (play h (f x) v) k)
    at_answer (Fine x v) ih = ih x v
    at_answer (Stop r v) ih = refl
play_then h (Fail r) f w k = refl

-- The same where the first machine has an entry, after which the relation may depend on what it gave.
pub enters_by : {E S T : Type 0} → (R : E → S → T → Type 0) (entry : Act E) (turn : E → S → Act (After S)) (start : E → S) (other : T → Act (After T)) (t : T) → IsSilent entry → ((e : E) (s : S) (t : T) → R e s t → Like (LikeAfter (R e)) (turn e s) (other t)) → Like (λ x b. LikeAfter (R x.0) x.1 b) (with_first entry turn start) (other t) → EntersAlike entry turn start other t
enters_by R entry turn start other t silent keeps first = record {
  silent = silent;
  first = λ n. like_map (λ x b. LikeAfter (R x.0) x.1 b) (GoesOnAlike turn other n) (with_first entry turn start) (other t) (λ x b. after_map (R x.0) (AlikeFor (turn x.0) other n) (kept_alike (R x.0) (turn x.0) other (keeps x.0) n) x.1 b) first;
}

-- Two worlds that differ in the area of their cells alone, and outcomes that tell the same.
use Rattle.std.proofs.Common.{◌≡◌, ℕ, ◌-◌, refl, sym, ap, ◌∙◌, subst}
use Rattle.run_model.specs.Storage.{Name, Local}
use Rattle.run_model.specs.Acts.{World, Spent, Ended, Undefined, Stuck, Reason, Outcome, Fine, Stop, then_do, Act, Done, Get, Put, Say, Take, Ask, Fail, and_then, Handler, play, no_calls}
use Rattle.run_model.specs.Runs.{Going, Finished, UndefinedAt, answer}
use Rattle.run_model.proofs.Order.{play-and_then}
use Rattle.thin_code.specs.Layout.{main}

-- The local cells of a unit are those of MAIN in the other world.
pub record Same (unit : Name) (v w : World) : Type 0 where
  pub cells : (o : ℕ) → v.cells (record { area = Local unit; offset = o }) ≡ w.cells (record { area = Local main; offset = o })
  pub out : v.out ≡ w.out
  pub left : v.left ≡ w.left

abbrev pub Alike : {A B : Type 0} → Name → (A → B → Type 0) → Outcome A → Outcome B → Type 0
Alike unit R (Fine x v) (Fine y w) = R x y × Same unit v w
Alike unit R (Stop r v) (Stop s w) = (r ≡ s) × Same unit v w
Alike unit R (Fine x v) (Stop s w) = ⊥
Alike unit R (Stop r v) (Fine y w) = ⊥

-- what follows alike outcomes alike
pub then_alike : {A B C D : Type 0} (unit : Name) (R : A → B → Type 0) (S : C → D → Type 0) (o : Outcome A) (p : Outcome B) (f : A → World → Outcome C) (g : B → World → Outcome D) → Alike unit R o p
    → ((x : A) (y : B) (v w : World) → R x y → Same unit v w → Alike unit S (f x v) (g y w)) → Alike unit S (then_do o f) (then_do p g)
then_alike unit R S (Fine x v) (Fine y w) f g a k = k x y v w a.0 a.1
then_alike unit R S (Stop r v) (Stop s w) f g a k = a
then_alike unit R S (Fine x v) (Stop s w) f g a k = absurd a
then_alike unit R S (Stop r v) (Fine y w) f g a k = absurd a

-- A run tells no more than an outcome does.
pub answers_alike : {A B : Type 0} (unit : Name) (R : A → B → Type 0) (n : ℕ) (o : Outcome A) (p : Outcome B) → Alike unit R o p → answer n o ≡ answer n p
answers_alike unit R n (Fine x v) (Fine y w) a = refl
answers_alike {A} {B} unit R n (Stop r v) (Stop s w) a = ap (λ r. answer {A = A} n (Stop r v)) a.0 ∙ go s
  where
    go : (s : Reason) → answer {A = A} n (Stop s v) ≡ answer {A = B} n (Stop s w)
    go Spent = ap Going a.1.out
    go (Ended k) = ap (Finished k) a.1.out
    go (Undefined c) = λ i. UndefinedAt (n - a.1.left i) c (a.1.out i)
    go Stuck = refl
answers_alike unit R n (Fine x v) (Stop s w) a = absurd a
answers_alike unit R n (Stop r v) (Fine y w) a = absurd a

-- ---- acts

pub and_then-assoc : {A B C : Type 0} (a : Act A) (f : A → Act B) (g : B → Act C) → and_then (and_then a f) g ≡ and_then a (λ x. and_then (f x) g)
and_then-assoc (Done x) f g = refl
and_then-assoc (Get l k) f g = λ i. Get l (λ c. and_then-assoc (k c) f g i)
and_then-assoc (Put l c a) f g = ap (Put l c) (and_then-assoc a f g)
and_then-assoc (Say bs a) f g = ap (Say bs) (and_then-assoc a f g)
and_then-assoc (Take k) f g = λ i. Take (λ x. and_then-assoc (k x) f g i)
and_then-assoc (Ask s ds k) f g = λ i. Ask s ds (λ r. and_then-assoc (k r) f g i)
and_then-assoc (Fail r) f g = refl

then_fine : {A : Type 0} (o : Outcome A) → then_do o (λ x v. Fine x v) ≡ o
then_fine (Fine x v) = refl
then_fine (Stop r v) = refl

module _ (unit : Name) (h : Handler) where
  -- An act of the unit and an act of MAIN come to alike outcomes from all worlds that are the same.
  abbrev pub Acts : {A B : Type 0} → (A → B → Type 0) → Act A → Act B → Type 0
  Acts R a b = (v w : World) → Same unit v w → Alike unit R (play h a v) (play no_calls b w)

  pub after_acts : {A B C D : Type 0} (R : A → B → Type 0) (S : C → D → Type 0) (a : Act A) (b : Act B) (f : A → Act C) (g : B → Act D) → Acts R a b
      → ((x : A) (y : B) → R x y → Acts S (f x) (g y)) → Acts S (and_then a f) (and_then b g)
  after_acts R S a b f g r k v w s =
      subst (λ o. Alike unit S o (play no_calls (and_then b g) w)) (sym (play-and_then h a f v))
      (subst (λ p. Alike unit S (then_do (play h a v) (λ x v. play h (f x) v)) p) (sym (play-and_then no_calls b g w))
      (then_alike unit R S (play h a v) (play no_calls b w) (λ x v. play h (f x) v) (λ y w. play no_calls (g y) w) (r v w s) (λ x y v w e t. k x y e v w t)))

  -- The second act may be another way to write it.
  pub acts_as : {A B : Type 0} (R : A → B → Type 0) (a : Act A) (b c : Act B) → b ≡ c → Acts R a b → Acts R a c
  acts_as R a b c e r v w s = subst (λ b. Alike unit R (play h a v) (play no_calls b w)) e (r v w s)

  pub acts_done : {A B : Type 0} (R : A → B → Type 0) (a : Act A) (b : Act B) → Acts R a b → Acts R a (and_then b (λ y. Done y))
  acts_done R a b r v w s =
      subst (λ p. Alike unit R (play h a v) p) (sym (play-and_then no_calls b (λ y. Done y) w ∙ then_fine (play no_calls b w))) (r v w s)

-- The solutions by which a body is spent are unique.
use Rattle.std.proofs.Common.{◌≡◌, Option, Some, None, Bool, true, false, refl, sym}
use Rattle.body_serves.specs.Laws.{SolutionsAreOne}

-- two options of which each has what the other has are one
same_option : {A : Type 0} → (a b : Option A) → ((x : A) → a ≡ Some x → b ≡ Some x) → ((x : A) → b ≡ Some x → a ≡ Some x) → a ≡ b
same_option None None f g = refl
same_option None (Some y) f g = g y refl
same_option (Some x) b f g = sym (f x refl)

same_bool : (a b : Bool) → (a ≡ true → b ≡ true) → (b ≡ true → a ≡ true) → a ≡ b
same_bool true b f g = sym (f refl)
same_bool false true f g = g refl
same_bool false false f g = refl

pub solutions_are_one : SolutionsAreOne
solutions_are_one = record {
  constants = λ r l known other a b p here h. same_option (known p h) (other p h) (λ n e. b.greatest known a.follows p here h n e) (λ n e. a.greatest other b.follows p here h n e);
  copies = λ r l copies other a b p here x t. same_bool (copies p x t) (other p x t) (λ e. b.greatest copies a.follows p here x t e) (λ e. a.greatest other b.follows p here x t e);
  lives = λ r l live other a b p here x. same_bool (live p x) (other p x) (λ e. a.least other b.holds p here x e) (λ e. b.least live a.holds p here x e);
}

-- What there is once at most, and what excludes what.
use Rattle.std.specs.Prelude.{◌≡◌}

-- at most one value is such
abbrev pub AtMostOne : {A : Type 0} → (A → Type 0) → Type 0
AtMostOne {A} Is = (a b : A) → Is a → Is b → a ≡ b

-- no value is the one where a value is the other
abbrev pub NeverBoth : {A B : Type 0} → (A → Type 0) → (B → Type 0) → Type 0
NeverBoth {A} {B} Is IsOther = (a : A) (b : B) → Is a → IsOther b → ⊥

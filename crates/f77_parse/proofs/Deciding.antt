-- Truth values that tell whether something holds.
use Rattle.std.proofs.Common.{◌≡◌, Bool, true, false, not, ◌||◌, ◌&&◌, refl, sym, ◌⊎◌, inl, inr}
use Rattle.std.specs.Bool.{MatchBool}

pub false_true : false ≡ true → ⊥
false_true h = cc

pub told : (b : Bool) → MatchBool b (b ≡ true) (b ≡ true → ⊥)
told true = refl
told false = false_true

pub decides_not : (b : Bool) (A : Type 0) → MatchBool b A (A → ⊥) → MatchBool (not b) (A → ⊥) ((A → ⊥) → ⊥)
decides_not true A h = λ none. none h
decides_not false A h = h

pub decides_and : (a b : Bool) (A B : Type 0) → MatchBool a A (A → ⊥) → MatchBool b B (B → ⊥) → MatchBool (a && b) (A × B) (A × B → ⊥)
decides_and true true A B h k = (h, k)
decides_and true false A B h k = λ x. k x.1
decides_and false b A B h k = λ x. h x.0

pub decides_or : (a b : Bool) (A B : Type 0) → MatchBool a A (A → ⊥) → MatchBool b B (B → ⊥) → MatchBool (a || b) (A ⊎ B) (A ⊎ B → ⊥)
decides_or true b A B h k = inl h
decides_or false true A B h k = inr k
decides_or false false A B h k = neither
  where
    neither : A ⊎ B → ⊥
    neither (inl x) = h x
    neither (inr y) = k y

-- the same of what means the same
pub decides : (b : Bool) (A B : Type 0) → (A → B) → (B → A) → MatchBool b A (A → ⊥) → MatchBool b B (B → ⊥)
decides true A B to from h = to h
decides false A B to from h = λ x. h (from x)

pub holds : (b : Bool) (A : Type 0) → MatchBool b A (A → ⊥) → b ≡ true → A
holds true A h e = h
holds false A h e = absurd (false_true e)

pub fails : (b : Bool) (A : Type 0) → MatchBool b A (A → ⊥) → b ≡ false → A → ⊥
fails true A h e = absurd (false_true (sym e))
fails false A h e = h

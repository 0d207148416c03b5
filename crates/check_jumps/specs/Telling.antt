-- What a truth value tells, and tables of truth values.
use Rattle.std.specs.Prelude.{◌≡◌, ℕ, ◌<◌, ◌⊎◌, Bool, true, false, List, length, slice_index, slice_index_or}
use Rattle.std.specs.Bool.{MatchBool}

-- true exactly where it holds
abbrev pub Tells : Bool → Type 0 → Type 0
Tells b Holds = MatchBool b Holds (Holds → ⊥)

-- the flags of the first m places tell where it holds
pub record AreFlags (Holds : ℕ → Type 0) (m : ℕ) (flags : List Bool) : Type 0 where
  pub long : length flags ≡ m
  pub each : (k : ℕ) → k < m → Tells (slice_index_or flags k false) (Holds k)

-- one number where it holds, and else the other
abbrev pub IsChoice : Type 0 → ℕ → ℕ → ℕ → Type 0
IsChoice Holds x y number = (Holds × (number ≡ x)) ⊎ ((Holds → ⊥) × (number ≡ y))

-- the numbers of the first n places: at each the one that is x there, where it holds, and else the place itself
pub record AreChoices (Holds : ℕ → Type 0) (x : ℕ → ℕ) (n : ℕ) (numbers : List ℕ) : Type 0 where
  pub long : length numbers ≡ n
  pub each : (k : ℕ) → k < n → IsChoice (Holds k) (x k) k (slice_index numbers k)

-- more flags were set: those of the places where it holds
pub record Marks (Holds : ℕ → Type 0) (old new : List Bool) : Type 0 where
  pub long : length new ≡ length old
  pub kept : (k : ℕ) → slice_index_or old k false ≡ true → slice_index_or new k false ≡ true
  pub set : (k : ℕ) → k < length old → Holds k → slice_index_or new k false ≡ true
  pub only : (k : ℕ) → slice_index_or new k false ≡ true → (slice_index_or old k false ≡ true) ⊎ Holds k

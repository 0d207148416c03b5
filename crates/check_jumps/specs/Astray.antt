-- Jumps that go astray, by the place where each is told.
use Rattle.std.specs.Prelude.{◌≡◌, ℕ, ◌<◌, ◌⊎◌, max, Bool, true, false, List, Some, slice_get, slice_index_or, length}
use Rattle.f77_tree.specs.declared.unit.Stmt.{Stmt}
use Rattle.f77_flow.specs.Kinds.{kind_at}
use Rattle.f77_flow.specs.Labels.{target}
use Rattle.f77_flow.specs.Spans.{IsElse}
use Rattle.f77_flow.specs.Checks.{JumpsTo, EntersSpan}

-- no jump from k may go to t
abbrev pub IsAstray : List Stmt → ℕ → ℕ → Type 0
IsAstray u k t = IsElse (kind_at u t) ⊎ EntersSpan u k t

-- a jump from k to the label goes astray, and that is told at this place
pub record IsToldAt (u : List Stmt) (k label place : ℕ) : Type 0 where
  pub stands : target u label < length u
  pub later : place ≡ max k (target u label)
  pub astray : IsAstray u k (target u label)

-- a jump from k to one of the first m labels
pub record IsToldOf (u : List Stmt) (k : ℕ) (labels : List ℕ) (m place : ℕ) : Type 0 where
  pub at : ℕ
  pub label : ℕ
  pub early : at < m
  pub among : slice_get labels at ≡ Some label
  pub told : IsToldAt u k label place

-- a jump from one of the first m statements
pub record IsToldBefore (u : List Stmt) (m place : ℕ) : Type 0 where
  pub jump : ℕ
  pub label : ℕ
  pub early : jump < m
  pub jumps : JumpsTo u jump label
  pub told : IsToldAt u jump label place

-- a jump from the statement at k
pub record IsToldFrom (u : List Stmt) (k place : ℕ) : Type 0 where
  pub label : ℕ
  pub jumps : JumpsTo u k label
  pub told : IsToldAt u k label place

pub record AreUnset (count : ℕ) (flags : List Bool) : Type 0 where
  pub long : length flags ≡ count
  pub each : (k : ℕ) → slice_index_or flags k false ≡ true → ⊥

-- the flags that the jumps from the first m statements set
pub record AreTold (u : List Stmt) (m : ℕ) (flags : List Bool) : Type 0 where
  pub long : length flags ≡ length u
  pub set : (place : ℕ) → place < length u → IsToldBefore u m place → slice_index_or flags place false ≡ true
  pub only : (place : ℕ) → slice_index_or flags place false ≡ true → IsToldBefore u m place

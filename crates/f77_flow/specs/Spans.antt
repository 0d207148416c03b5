-- What the DOs and block IFs of a unit hold: the ranges of DOs, and the arms of block IFs. A DO isn't in its own range, and a
-- block IF and its END IF are in none of its arms. A DO whose last statement doesn't stand below it has no range, and a block IF
-- without END IF has no arms.
use Rattle.std.specs.Prelude.{◌≡◌, ℕ, ◌<◌, ◌≤◌, ◌⊎◌, List, length, IsTrue}
use Rattle.f77_tree.specs.declared.unit.Stmt.{Stmt}
use Rattle.f77_flow.specs.declared.kinds.Kind.{Kind}
use Rattle.f77_flow.specs.declared.kinds.Kind.TheVariants.{BlockIf, ElseIf, Else}
use Rattle.f77_flow.specs.Kinds.{kind_at}
use Rattle.f77_flow.specs.Labels.{last_of, has_range}
use Rattle.f77_flow.specs.Blocks.{end_if, arm_end}

-- statement j is in the range of the DO at d
pub record IsInRange (u : List Stmt) (d j : ℕ) : Type 0 where
  pub range : IsTrue (has_range u d)
  pub behind : d < j
  pub within : j ≤ last_of u d

-- a block IF at b that has an END IF
pub record IsBlock (u : List Stmt) (b : ℕ) : Type 0 where
  pub opens : kind_at u b ≡ BlockIf
  pub ends : end_if u b < length u

abbrev pub IsElse : Kind → Type 0
IsElse ElseIf = Unit {0}
IsElse Else = Unit {0}
IsElse _ = ⊥

-- the ELSE IF or ELSE at h belongs to the block IF at b
pub record IsPartOf (u : List Stmt) (b h : ℕ) : Type 0 where
  pub block : IsBlock u b
  pub behind : b < h
  pub part : IsElse (kind_at u h)
  pub same : end_if u h ≡ end_if u b

-- the statement at h begins an arm of the block IF at b
abbrev pub BeginsArmOf : List Stmt → ℕ → ℕ → Type 0
BeginsArmOf u b h = (IsBlock u b × (h ≡ b)) ⊎ IsPartOf u b h

-- statement j is in the arm that begins at h
pub record IsInArm (u : List Stmt) (h j : ℕ) : Type 0 where
  pub block : ℕ
  pub arm : BeginsArmOf u block h
  pub behind : h < j
  pub within : j < arm_end u h

-- the closed span of a DO or a block IF, from its own place to its last statement or END IF
pub data IsSpan (u : List Stmt) : ℕ → ℕ → Type 0 where
  loop : {from to : ℕ} → IsTrue (has_range u from) → to ≡ last_of u from → IsSpan u from to
  block : {from to : ℕ} → IsBlock u from → to ≡ end_if u from → IsSpan u from to

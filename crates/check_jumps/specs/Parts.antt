-- Block IFs, looked up by their END IFs and from their parts.
use Rattle.std.specs.Prelude.{◌≡◌, ℕ, ◌<◌, ◌≤◌, List, length, slice_index}
use Rattle.f77_tree.specs.declared.unit.Stmt.{Stmt}
use Rattle.f77_flow.specs.declared.kinds.Kind.TheVariants.{Else}
use Rattle.f77_flow.specs.Kinds.{kind_at}
use Rattle.f77_flow.specs.Blocks.{end_if}
use Rattle.f77_flow.specs.Spans.{IsBlock, IsPartOf, BeginsArmOf}

-- the statement at h is an ELSE IF or ELSE of a block IF
abbrev pub IsPart : List Stmt → ℕ → Type 0
IsPart u h = (b : ℕ) × IsPartOf u b h

-- the statement at h begins an arm of a block IF
abbrev pub BeginsArm : List Stmt → ℕ → Type 0
BeginsArm u h = (b : ℕ) × BeginsArmOf u b h

-- the statement at h is the ELSE of a block IF
abbrev pub IsElsePart : List Stmt → ℕ → Type 0
IsElsePart u h = (kind_at u h ≡ Else) × IsPart u h

-- a block IF ends at e
abbrev pub EndsBlock : List Stmt → ℕ → Type 0
EndsBlock u e = (b : ℕ) × IsBlock u b × (end_if u b ≡ e)

-- the first block IF that ends at e, or a number that isn't before e
pub record IsOpener (u : List Stmt) (e first : ℕ) : Type 0 where
  pub least : (b : ℕ) → IsBlock u b → end_if u b ≡ e → first ≤ b
  pub block : first < e → IsBlock u first
  pub ends : first < e → end_if u first ≡ e

pub record AreOpeners (u : List Stmt) (openers : List ℕ) : Type 0 where
  pub long : length openers ≡ length u
  pub each : (e : ℕ) → e < length u → IsOpener u e (slice_index openers e)

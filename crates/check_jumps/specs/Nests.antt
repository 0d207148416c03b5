-- How DOs and block IFs nest, as tables: the ELSEs of block IFs by their END IFs, and the intervals of ranges, arms and spans.
use Rattle.std.specs.Prelude.{◌≡◌, ◌≢◌, ℕ, ◌-◌, ◌<◌, ◌≤◌, List, length, slice_index, IsTrue}
use Rattle.f77_tree.specs.declared.unit.Stmt.{Stmt}
use Rattle.f77_flow.specs.declared.kinds.Kind.{Kind}
use Rattle.f77_flow.specs.declared.kinds.Kind.TheVariants.{BlockIf, EndIf, Do}
use Rattle.f77_flow.specs.Kinds.{kind_at}
use Rattle.f77_flow.specs.Labels.{last_of, has_range}
use Rattle.f77_flow.specs.Blocks.{end_if, arm_end}
use Rattle.f77_flow.specs.Spans.{IsBlock, IsElse, IsPartOf, IsSpan}
use Rattle.check_jumps.specs.declared.nests.Nests.{Nests}
use Rattle.check_jumps.specs.Telling.{AreChoices}
use Rattle.check_jumps.specs.Parts.{IsElsePart, BeginsArm}

-- the ranges of DOs, by their last statements
abbrev pub AreRanges : List Stmt → List ℕ → Type 0
AreRanges u ends = AreChoices (λ d. IsTrue (has_range u d)) (last_of u) (length u) ends

-- the arms of block IFs, by their last statements
abbrev pub AreArms : List Stmt → List ℕ → Type 0
AreArms u ends = AreChoices (BeginsArm u) (λ h. arm_end u h - 1) (length u) ends

-- the ELSEs of block IFs, by their END IFs
abbrev pub AreElses : List Stmt → List ℕ → Type 0
AreElses u ends = AreChoices (IsElsePart u) (end_if u) (length u) ends

-- the end of the span that begins at k, or k
pub record IsSpanEnd (u : List Stmt) (k end : ℕ) : Type 0 where
  pub is : (to : ℕ) → IsSpan u k to → end ≡ to
  pub span : k < end → IsSpan u k end
  pub within : end < length u

-- those of the first n places
pub record AreSpansTo (u : List Stmt) (n : ℕ) (ends : List ℕ) : Type 0 where
  pub long : length ends ≡ n
  pub each : (k : ℕ) → k < n → IsSpanEnd u k (slice_index ends k)

abbrev pub AreSpans : List Stmt → List ℕ → Type 0
AreSpans u ends = AreSpansTo u (length u) ends

-- the first ELSE of a block IF that ends at e, or a number that isn't before e
pub record IsFirstElse (u : List Stmt) (e first : ℕ) : Type 0 where
  pub least : (h : ℕ) → IsElsePart u h → end_if u h ≡ e → first ≤ h
  pub part : first < e → IsElsePart u first
  pub ends : first < e → end_if u first ≡ e

pub record AreFirstElses (u : List Stmt) (elses : List ℕ) : Type 0 where
  pub long : length elses ≡ length u
  pub each : (e : ℕ) → e < length u → IsFirstElse u e (slice_index elses e)

-- what the tables of some statements are
pub record AreNests (nests : Nests) : Type 0 where
  pub of_elses : AreFirstElses nests.parts.control.statements.now nests.elses
  pub of_ranges : AreRanges nests.parts.control.statements.now nests.ranges.ends
  pub of_arms : AreArms nests.parts.control.statements.now nests.arms.ends
  pub of_spans : AreSpans nests.parts.control.statements.now nests.spans.ends

-- ---- the ways not to nest, by what they speak of

-- a DO or a block IF without its end
pub data LacksEnd (u : List Stmt) (k : ℕ) : Type 0 where
  no_last : (label : ℕ) → kind_at u k ≡ Do label → ¬ IsTrue (has_range u k) → LacksEnd u k
  no_end : kind_at u k ≡ BlockIf → ¬ IsBlock u k → LacksEnd u k

-- an ELSE IF, ELSE or END IF without its block IF
pub data LacksBlock (u : List Stmt) (k : ℕ) : Type 0 where
  no_block : IsElse (kind_at u k) → ((b : ℕ) → ¬ IsPartOf u b k) → LacksBlock u k
  no_begin : kind_at u k ≡ EndIf → ((b : ℕ) → IsBlock u b → end_if u b ≢ k) → LacksBlock u k

abbrev pub IsDo : Kind → Type 0
IsDo (Do label) = Unit {0}
IsDo _ = ⊥

abbrev pub IsBlockIf : Kind → Type 0
IsBlockIf BlockIf = Unit {0}
IsBlockIf _ = ⊥

abbrev pub IsEndIf : Kind → Type 0
IsEndIf EndIf = Unit {0}
IsEndIf _ = ⊥

-- What the tables of ranges, arms, spans and ELSEs tell.
use Rattle.std.proofs.Common.{◌≡◌, ℕ, ◌+◌, ◌<◌, List, [], ◌∷◌, ◌++◌, length, slice_index, IsTrue, refl, sym, ◌∙◌, arith, ⊎_elim, length-append}
use Rattle.std.proofs.lemmas.Bool.Decides.{nat_tests}
use Rattle.f77_tree.specs.declared.unit.Stmt.{Stmt}
use Rattle.f77_flow.specs.declared.kinds.Kind.TheVariants.{Declaration, BlockIf, Else, Do}
use Rattle.f77_flow.specs.Kinds.{kind_at}
use Rattle.f77_flow.specs.Labels.{last_of, has_range}
use Rattle.f77_flow.specs.Blocks.{end_if}
use Rattle.f77_flow.specs.Spans as spans
use Rattle.f77_flow.specs.Spans.{IsInRange, IsBlock, IsElse, IsPartOf, IsInArm, IsSpan}
use Rattle.check_jumps.specs.Telling.{IsChoice}
use Rattle.check_jumps.specs.Intervals.{IsFirstEnding, AreFirstEndings}
use Rattle.check_jumps.specs.Parts.{IsElsePart}
use Rattle.check_jumps.specs.Nests.{AreElses, IsSpanEnd, AreSpansTo, IsFirstElse, AreFirstElses}
use Rattle.check_jumps.proofs.Chains.{pushed}
use Rattle.check_jumps.proofs.Above.{kind_within, no_last}
use Rattle.check_jumps.proofs.Opening.{first_of}

-- ---- DOs and block IFs apart

pub range_less : (u : List Stmt) (d : ℕ) → IsTrue (has_range u d) → last_of u d < length u
range_less u d h = grind (arith, nat_tests)

no_do : (label : ℕ) → BlockIf ≡ Do label → ⊥
no_do label e = cc

pub block_no_range : (u : List Stmt) (k : ℕ) → IsBlock u k → IsTrue (has_range u k) → ⊥
block_no_range u k block range = omega (arith, range_less u k range, no_last u k BlockIf block.opens (λ label. no_do label))

-- what stands behind the last statement has no range
past : (u : List Stmt) (d : ℕ) → (kind_at u d ≡ Declaration) → IsTrue (has_range u d) → ⊥
past u d is range = omega (arith, range_less u d range, no_last u d Declaration is (λ label e. cc))

not_declared : (u : List Stmt) (d : ℕ) → IsTrue (has_range u d) → kind_at u d ≡ Declaration → ⊥
not_declared u d range is = past u d is range

pub range_within : (u : List Stmt) (d : ℕ) → IsTrue (has_range u d) → d < length u
range_within u d range = kind_within u d (not_declared u d range)

-- ---- spans

block_end_is : (u : List Stmt) (k to : ℕ) → IsBlock u k → IsSpan u k to → end_if u k ≡ to
block_end_is u k to block (spans.loop range e) = absurd (block_no_range u k block range)
block_end_is u k to block (spans.block other e) = sym e

pub span_of_block : (u : List Stmt) (k : ℕ) → IsBlock u k → IsSpanEnd u k (end_if u k)
span_of_block u k block = record { is = λ to span. block_end_is u k to block span; span = λ _. spans.block block refl; within = block.ends }

loop_end_is : (u : List Stmt) (k to : ℕ) → (IsBlock u k → ⊥) → IsSpan u k to → IsTrue (has_range u k) × (last_of u k ≡ to)
loop_end_is u k to other (spans.loop range e) = (range, sym e)
loop_end_is u k to other (spans.block block e) = absurd (other block)

pub span_of_range : (u : List Stmt) (k r : ℕ) → (IsBlock u k → ⊥) → k < length u → IsChoice (IsTrue (has_range u k)) (last_of u k) k r → IsSpanEnd u k r
span_of_range u k r other within choice = ⊎_elim
    (λ (h : IsTrue (has_range u k) × (r ≡ last_of u k)). record {
      is = λ to span. h.1 ∙ (loop_end_is u k to other span).1;
      span = λ _. spans.loop h.0 h.1;
      within = omega (arith, range_less u k h.0, h.1);
    })
    (λ (h : (IsTrue (has_range u k) → ⊥) × (r ≡ k)). record {
      is = λ to span. absurd (h.0 (loop_end_is u k to other span).0);
      span = λ more. absurd (omega (arith, h.1));
      within = omega (arith, h.1);
    })
    choice

pub spans_more : (u : List Stmt) (k r : ℕ) (ends : List ℕ) → AreSpansTo u k ends → IsSpanEnd u k r → AreSpansTo u (k + 1) (ends ++ r ∷ [])
spans_more u k r ends are is = record {
  long = omega (arith, are.long, length-append ends (r ∷ []));
  each = pushed (IsSpanEnd u) k r ends are.long are.each is;
}

-- ---- ELSEs

declared_else : Else ≡ Declaration → ⊥
declared_else e = cc

else_within : (u : List Stmt) (h : ℕ) → IsElsePart u h → h < length u
else_within u h part = kind_within u h (λ e. declared_else (sym part.0 ∙ e))

first_else : (u : List Stmt) (ends : List ℕ) (e first : ℕ) → AreElses u ends → e < length u → IsFirstEnding ends 0 e first → IsFirstElse u e first
first_else u ends e first are within is =
    let of = first_of (IsElsePart u) (end_if u) (length u) ends e first are (else_within u) within is in
    record { least = of.least; part = of.holds; ends = of.same }

pub elses : (u : List Stmt) (ends firsts : List ℕ) → AreElses u ends → AreFirstEndings ends 0 firsts → AreFirstElses u firsts
elses u ends firsts are is = record {
  long = is.long ∙ are.long;
  each = λ e within. first_else u ends e (slice_index firsts e) are within (is.each e (omega (arith, are.long)));
}

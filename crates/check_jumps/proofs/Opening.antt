-- What the tables of block IFs tell.
use Rattle.std.proofs.Common.{◌≡◌, ℕ, ◌+◌, ◌<◌, ◌≤◌, inl, inr, Bool, nat_lt, List, [], ◌∷◌, ◌++◌, length, slice_index, refl, sym, ◌∙◌, subst, arith, ⊎_elim, length-append}
use Rattle.f77_tree.specs.declared.unit.Stmt.{Stmt}
use Rattle.f77_flow.specs.declared.kinds.Kind.TheVariants.{Declaration, BlockIf, Else}
use Rattle.f77_flow.specs.Kinds.{kind_at}
use Rattle.f77_flow.specs.Blocks.{end_if}
use Rattle.f77_flow.specs.Spans.{IsBlock, IsElse, IsPartOf}
use Rattle.check_jumps.specs.Telling.{Tells, IsChoice, AreChoices}
use Rattle.check_jumps.specs.Intervals.{IsFirstEnding, AreFirstEndings}
use Rattle.check_jumps.specs.Parts.{IsPart, BeginsArm, IsElsePart, EndsBlock, IsOpener, AreOpeners}
use Rattle.check_jumps.proofs.Chains.{pushed, tells_less, tells_same}
use Rattle.check_jumps.proofs.Above.{end_above, kind_within}

-- ---- choices

pub choice_is : (P : Type 0) (x y r : ℕ) → IsChoice P x y r → P → r ≡ x
choice_is P x y r is holds = ⊎_elim (λ (h : P × (r ≡ x)). h.1) (λ (h : (P → ⊥) × (r ≡ y)). absurd (h.0 holds)) is

pub choice_holds : (P : Type 0) (x y r : ℕ) → IsChoice P x y r → y < r → P
choice_holds P x y r is more = ⊎_elim (λ (h : P × (r ≡ x)). h.0) (λ (h : (P → ⊥) × (r ≡ y)). absurd (omega (arith, h.1))) is

pub choices_more : (Holds : ℕ → Type 0) (x : ℕ → ℕ) (k r : ℕ) (numbers : List ℕ) → AreChoices Holds x k numbers → IsChoice (Holds k) (x k) k r → AreChoices Holds x (k + 1) (numbers ++ r ∷ [])
choices_more Holds x k r numbers are is = record {
  long = omega (arith, are.long, length-append numbers (r ∷ []));
  each = pushed (λ j n. IsChoice (Holds j) (x j) j n) k r numbers are.long are.each is;
}

-- ---- block IFs

declared_block : BlockIf ≡ Declaration → ⊥
declared_block e = cc

pub block_within : (u : List Stmt) (b : ℕ) → IsBlock u b → b < length u
block_within u b block = kind_within u b (λ e. declared_block (sym block.opens ∙ e))

-- the first place that chose e
pub record IsFirstOf (P : ℕ → Type 0) (x : ℕ → ℕ) (e first : ℕ) : Type 0 where
  pub least : (b : ℕ) → P b → x b ≡ e → first ≤ b
  pub holds : first < e → P first
  pub same : first < e → x first ≡ e

pub first_of : (P : ℕ → Type 0) (x : ℕ → ℕ) (n : ℕ) (ends : List ℕ) (e first : ℕ) → AreChoices P x n ends → ((b : ℕ) → P b → b < n) → e < n → IsFirstEnding ends 0 e first → IsFirstOf P x e first
first_of P x n ends e first are inside within is = record {
  least = λ b holds same. let here : b < n = inside b holds in is.least b (omega arith) (omega (arith, are.long)) (choice_is (P b) (x b) b (slice_index ends b) (are.each b here) holds ∙ same);
  holds = chosen;
  same = λ small. sym (choice_is (P first) (x first) first (slice_index ends first) (are.each first (omega arith)) (chosen small)) ∙ ends_at small;
}
  where
    ends_at : first < e → slice_index ends first ≡ e
    ends_at small = is.here (omega (arith, are.long))

    chosen : first < e → P first
    chosen small = choice_holds (P first) (x first) first (slice_index ends first) (are.each first (omega arith)) (omega (arith, ends_at small))

opener : (u : List Stmt) (ends : List ℕ) (e first : ℕ) → AreChoices (IsBlock u) (end_if u) (length u) ends → e < length u → IsFirstEnding ends 0 e first → IsOpener u e first
opener u ends e first are within is =
    let of = first_of (IsBlock u) (end_if u) (length u) ends e first are (block_within u) within is in
    record { least = of.least; block = of.holds; ends = of.same }

pub openers : (u : List Stmt) (ends firsts : List ℕ) → AreChoices (IsBlock u) (end_if u) (length u) ends → AreFirstEndings ends 0 firsts → AreOpeners u firsts
openers u ends firsts are is = record {
  long = is.long ∙ are.long;
  each = λ e within. opener u ends e (slice_index firsts e) are within (is.each e (omega (arith, are.long)));
}

pub part_by : (u : List Stmt) (h e first : ℕ) → IsElse (kind_at u h) → e ≡ end_if u h → e < length u → IsOpener u e first → Tells (nat_lt first h) (IsPart u h)
part_by u h e first is same within opener = tells_same (nat_lt first h) (first < h) (IsPart u h) to from (tells_less first h)
  where
    to : first < h → IsPart u h
    to small =
        let below : first < e = omega (arith, same, end_above u h) in
        (first, record { block = opener.block below; behind = small; part = is; same = sym same ∙ sym (opener.ends below) })

    from : IsPart u h → first < h
    from part = omega (arith, opener.least part.0 part.1.block (sym part.1.same ∙ sym same), part.1.behind)

pub part_ends : (u : List Stmt) (h : ℕ) → IsPart u h → end_if u h < length u
part_ends u h part = omega (arith, part.1.block.ends, part.1.same)

pub ends_by : (u : List Stmt) (e first : ℕ) → IsOpener u e first → Tells (nat_lt first e) (EndsBlock u e)
ends_by u e first opener = tells_same (nat_lt first e) (first < e) (EndsBlock u e)
    (λ small. (first, opener.block small, opener.ends small))
    (λ block. omega (arith, opener.least block.0 block.1 block.2, end_above u block.0, block.2))
    (tells_less first e)

pub arm_of_block : (u : List Stmt) (h : ℕ) → IsBlock u h → BeginsArm u h
arm_of_block u h block = (h, inl (block, refl))

arm_is : (u : List Stmt) (h : ℕ) → (IsBlock u h → ⊥) → BeginsArm u h → IsPart u h
arm_is u h other arm = ⊎_elim (λ (own : IsBlock u arm.0 × (h ≡ arm.0)). absurd (other (subst (IsBlock u) (sym own.1) own.0))) (λ (part : IsPartOf u arm.0 h). (arm.0, part)) arm.1

pub arm_by_part : (u : List Stmt) (h : ℕ) (b : Bool) → (IsBlock u h → ⊥) → Tells b (IsPart u h) → Tells b (BeginsArm u h)
arm_by_part u h b other tells = tells_same b (IsPart u h) (BeginsArm u h) (λ part. (part.0, inr part.1)) (arm_is u h other) tells

pub else_by : (u : List Stmt) (h : ℕ) (b : Bool) → kind_at u h ≡ Else → Tells b (IsPart u h) → Tells b (IsElsePart u h)
else_by u h b is tells = tells_same b (IsPart u h) (IsElsePart u h) (λ part. (is, part)) (λ part. part.1) tells

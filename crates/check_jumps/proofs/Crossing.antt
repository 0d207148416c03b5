-- What the tables tell of DOs and block IFs that don't nest, and of jumps into ranges and arms.
use Rattle.std.proofs.Common.{◌≡◌, ℕ, ◌-◌, ◌<◌, ◌≤◌, ◌⊎◌, inl, inr, Bool, not, nat_lt, List, length, slice_index, IsTrue, refl, sym, ◌∙◌, subst, arith, ⊎_elim}
use Rattle.std.proofs.lemmas.Bool.{cases_lt}
use Rattle.std.proofs.lemmas.Bool.Decides.{nat_tests}
use Rattle.std.proofs.lemmas.List.{get_or_past}
use Rattle.f77_tree.specs.declared.unit.Stmt.{Stmt}
use Rattle.f77_flow.specs.declared.kinds.Kind.{Kind}
use Rattle.f77_flow.specs.declared.kinds.Kind.TheVariants.{Declaration, BlockIf, ElseIf, Else, EndIf, Do}
use Rattle.f77_flow.specs.Kinds.{kind_at}
use Rattle.f77_flow.specs.Labels.{last_of, has_range}
use Rattle.f77_flow.specs.Blocks.{end_if, arm_end}
use Rattle.f77_flow.specs.Spans.{IsInRange, IsBlock, IsElse, IsPartOf, BeginsArmOf, IsInArm}
use Rattle.f77_flow.specs.Checks as checks
use Rattle.f77_flow.specs.Checks.{EntersSpan, StandsBehindElse, LeavesArm, Overlaps, IsMisnested}
use Rattle.check_jumps.specs.Telling.{Tells}
use Rattle.check_jumps.specs.Intervals.{Holds, Enters, EndsBefore}
use Rattle.check_jumps.specs.Parts.{IsPart, BeginsArm, IsElsePart, EndsBlock}
use Rattle.check_jumps.specs.Nests as nests
use Rattle.check_jumps.specs.Nests.{AreRanges, AreArms, IsSpanEnd, AreSpans, IsFirstElse, LacksEnd, LacksBlock, IsDo, IsBlockIf, IsEndIf}
use Rattle.check_jumps.proofs.Chains.{tells_less, tells_same, tells_not, tells_true, tells_other}
use Rattle.check_jumps.proofs.Above.{end_above, arm_above, last_above, kind_within}
use Rattle.check_jumps.proofs.Opening.{choice_is, choice_holds, block_within}
use Rattle.check_jumps.proofs.Spanning.{range_less, range_within}

-- ---- ranges and arms as intervals

pub less_range : (u : List Stmt) (d : ℕ) → last_of u d < length u → IsTrue (has_range u d)
less_range u d h = grind (arith, nat_tests)

no_interval : (ends : List ℕ) (h j : ℕ) → length ends ≤ h → Holds ends h j → ⊥
no_interval ends h j far holds = omega (arith, get_or_past ends h 0 far, holds.behind, holds.within)

pub in_range : (u : List Stmt) (ends : List ℕ) (d j : ℕ) → AreRanges u ends → Holds ends d j → IsInRange u d j
in_range u ends d j are holds = ⊎_elim
    (λ (small : d < length u).
    let range = choice_holds (IsTrue (has_range u d)) (last_of u d) d (slice_index ends d) (are.each d small) (omega (arith, holds.behind, holds.within)) in
    record { range = range; behind = holds.behind; within = omega (arith, holds.within, choice_is (IsTrue (has_range u d)) (last_of u d) d (slice_index ends d) (are.each d small) range) })
    (λ (large : length u ≤ d). absurd (no_interval ends d j (omega (arith, are.long)) holds))
    (cases_lt d (length u))

pub range_holds : (u : List Stmt) (ends : List ℕ) (d j : ℕ) → AreRanges u ends → IsInRange u d j → Holds ends d j
range_holds u ends d j are inside = record {
  behind = inside.behind;
  within = omega (arith, inside.within, choice_is (IsTrue (has_range u d)) (last_of u d) d (slice_index ends d) (are.each d (range_within u d inside.range)) inside.range);
}

else_is : (v : Kind) → IsElse v → v ≡ Declaration → ⊥
else_is ElseIf h = λ e. cc
else_is Else h = λ e. cc
else_is _ h = absurd h

part_within : (u : List Stmt) (b h : ℕ) → IsPartOf u b h → h < length u
part_within u b h part = kind_within u h (else_is (kind_at u h) part.part)

arm_within : (u : List Stmt) (b h : ℕ) → BeginsArmOf u b h → h < length u
arm_within u b h arm = ⊎_elim (λ (own : IsBlock u b × (h ≡ b)). omega (arith, block_within u b own.0, own.1)) (λ (part : IsPartOf u b h). part_within u b h part) arm

pub in_arm : (u : List Stmt) (ends : List ℕ) (h j : ℕ) → AreArms u ends → Holds ends h j → IsInArm u h j
in_arm u ends h j are holds = ⊎_elim
    (λ (small : h < length u).
    let arm = choice_holds (BeginsArm u h) (arm_end u h - 1) h (slice_index ends h) (are.each h small) (omega (arith, holds.behind, holds.within)) in
    record { block = arm.0; arm = arm.1; behind = holds.behind; within = omega (arith, arm_above u h, holds.within, choice_is (BeginsArm u h) (arm_end u h - 1) h (slice_index ends h) (are.each h small) arm) })
    (λ (large : length u ≤ h). absurd (no_interval ends h j (omega (arith, are.long)) holds))
    (cases_lt h (length u))

pub arm_holds : (u : List Stmt) (ends : List ℕ) (h j : ℕ) → AreArms u ends → IsInArm u h j → Holds ends h j
arm_holds u ends h j are inside = record {
  behind = inside.behind;
  within = omega (arith, inside.within, choice_is (BeginsArm u h) (arm_end u h - 1) h (slice_index ends h) (are.each h (arm_within u inside.block h inside.arm)) (inside.block, inside.arm));
}

-- ---- jumps

enters_either : (u : List Stmt) (ranges arms : List ℕ) (k t : ℕ) → AreRanges u ranges → AreArms u arms → Enters ranges k t ⊎ Enters arms k t → EntersSpan u k t
enters_either u ranges arms k t r a enters = ⊎_elim
    (λ (e : Enters ranges k t). checks.range e.begin (in_range u ranges e.begin t r e.holds) (λ inside. e.apart (range_holds u ranges e.begin k r inside)))
    (λ (e : Enters arms k t). checks.arm e.begin (in_arm u arms e.begin t a e.holds) (λ inside. e.apart (arm_holds u arms e.begin k a inside)))
    enters

either_enters : (u : List Stmt) (ranges arms : List ℕ) (k t : ℕ) → AreRanges u ranges → AreArms u arms → EntersSpan u k t → Enters ranges k t ⊎ Enters arms k t
either_enters u ranges arms k t r a (checks.range d inside outside) = inl (record { begin = d; holds = range_holds u ranges d t r inside; apart = λ holds. outside (in_range u ranges d k r holds) })
either_enters u ranges arms k t r a (checks.arm h inside outside) = inr (record { begin = h; holds = arm_holds u arms h t a inside; apart = λ holds. outside (in_arm u arms h k a holds) })

pub enters_by_range : (u : List Stmt) (ranges arms : List ℕ) (k t : ℕ) → AreRanges u ranges → AreArms u arms → Enters ranges k t → EntersSpan u k t
enters_by_range u ranges arms k t r a enters = enters_either u ranges arms k t r a (inl enters)

pub enters_by_arm : (u : List Stmt) (ranges arms : List ℕ) (k t : ℕ) (b : Bool) → AreRanges u ranges → AreArms u arms → (Enters ranges k t → ⊥) → Tells b (Enters arms k t) → Tells b (EntersSpan u k t)
enters_by_arm u ranges arms k t b r a other tells = tells_same b (Enters ranges k t ⊎ Enters arms k t) (EntersSpan u k t) (enters_either u ranges arms k t r a) (either_enters u ranges arms k t r a) (tells_other b (Enters ranges k t) (Enters arms k t) other tells)

-- ---- without an end or a block IF

do_is : (v : Kind) → IsDo v → (label : ℕ) × (v ≡ Do label)
do_is (Do label) h = (label, refl)
do_is _ h = absurd h

block_if_is : (v : Kind) → IsBlockIf v → v ≡ BlockIf
block_if_is BlockIf h = refl
block_if_is _ h = absurd h

end_if_is : (v : Kind) → IsEndIf v → v ≡ EndIf
end_if_is EndIf h = refl
end_if_is _ h = absurd h

block_do : (label : ℕ) → BlockIf ≡ Do label → ⊥
block_do label e = cc

lacks_range : (u : List Stmt) (k label : ℕ) → kind_at u k ≡ Do label → LacksEnd u k → IsTrue (has_range u k) → ⊥
lacks_range u k label is (nests.no_last other e lacks) = lacks
lacks_range u k label is (nests.no_end e lacks) = absurd (block_do label (sym e ∙ is))

lacks_end_if : (u : List Stmt) (k : ℕ) → kind_at u k ≡ BlockIf → LacksEnd u k → IsBlock u k → ⊥
lacks_end_if u k is (nests.no_last label e lacks) = absurd (block_do label (sym is ∙ e))
lacks_end_if u k is (nests.no_end e lacks) = lacks

pub lacks_by_range : (u : List Stmt) (k : ℕ) → IsDo (kind_at u k) → Tells (not (has_range u k)) (LacksEnd u k)
lacks_by_range u k is =
    let label = do_is (kind_at u k) is in
    tells_same (not (has_range u k)) (IsTrue (has_range u k) → ⊥) (LacksEnd u k) (nests.no_last label.0 label.1) (lacks_range u k label.0 label.1) (tells_not (has_range u k) (IsTrue (has_range u k)) (tells_true (has_range u k)))

pub lacks_by_block : (u : List Stmt) (k : ℕ) (b : Bool) → IsBlockIf (kind_at u k) → Tells b (IsBlock u k) → Tells (not b) (LacksEnd u k)
lacks_by_block u k b is tells =
    let same = block_if_is (kind_at u k) is in
    tells_same (not b) (IsBlock u k → ⊥) (LacksEnd u k) (nests.no_end same) (lacks_end_if u k same) (tells_not b (IsBlock u k) tells)

pub lacks_no_end : (u : List Stmt) (k : ℕ) → (IsDo (kind_at u k) → ⊥) → (IsBlockIf (kind_at u k) → ⊥) → LacksEnd u k → ⊥
lacks_no_end u k other another (nests.no_last label e lacks) = other (subst IsDo (sym e) tt)
lacks_no_end u k other another (nests.no_end e lacks) = another (subst IsBlockIf (sym e) tt)

else_end : (v : Kind) → IsElse v → v ≡ EndIf → ⊥
else_end ElseIf h = λ e. cc
else_end Else h = λ e. cc
else_end _ h = absurd h

lacks_part : (u : List Stmt) (k : ℕ) → IsElse (kind_at u k) → LacksBlock u k → IsPart u k → ⊥
lacks_part u k is (nests.no_block e lacks) = λ part. lacks part.0 part.1
lacks_part u k is (nests.no_begin e lacks) = absurd (else_end (kind_at u k) is e)

lacks_begin : (u : List Stmt) (k : ℕ) → kind_at u k ≡ EndIf → LacksBlock u k → EndsBlock u k → ⊥
lacks_begin u k is (nests.no_block e lacks) = absurd (else_end (kind_at u k) e is)
lacks_begin u k is (nests.no_begin e lacks) = λ block. lacks block.0 block.1 block.2

pub lacks_by_part : (u : List Stmt) (k : ℕ) (b : Bool) → IsElse (kind_at u k) → Tells b (IsPart u k) → Tells (not b) (LacksBlock u k)
lacks_by_part u k b is tells = tells_same (not b) (IsPart u k → ⊥) (LacksBlock u k) (λ lacks. nests.no_block is (λ a part. lacks (a, part))) (lacks_part u k is) (tells_not b (IsPart u k) tells)

pub lacks_by_begin : (u : List Stmt) (k : ℕ) (b : Bool) → IsEndIf (kind_at u k) → Tells b (EndsBlock u k) → Tells (not b) (LacksBlock u k)
lacks_by_begin u k b is tells =
    let same = end_if_is (kind_at u k) is in
    tells_same (not b) (EndsBlock u k → ⊥) (LacksBlock u k) (λ lacks. nests.no_begin same (λ a block e. lacks (a, block, e))) (lacks_begin u k same) (tells_not b (EndsBlock u k) tells)

pub lacks_no_block : (u : List Stmt) (k : ℕ) → (IsElse (kind_at u k) → ⊥) → (IsEndIf (kind_at u k) → ⊥) → LacksBlock u k → ⊥
lacks_no_block u k other another (nests.no_block e lacks) = other e
lacks_no_block u k other another (nests.no_begin e lacks) = another (subst IsEndIf (sym e) tt)

-- ---- behind an ELSE, out of an arm, over a span

pub behind_by : (u : List Stmt) (k e first : ℕ) → IsPart u k → e ≡ end_if u k → IsFirstElse u e first → Tells (nat_lt first k) (StandsBehindElse u k)
behind_by u k e first part same is = tells_same (nat_lt first k) (first < k) (StandsBehindElse u k) to from (tells_less first k)
  where
    to : first < k → StandsBehindElse u k
    to small =
        let below : first < e = omega (arith, same, end_above u k) in
        let other : IsElsePart u first = is.part below in
        let ends : end_if u first ≡ e = is.ends below in
        let sibling : IsPartOf u other.1.0 first = other.1.1 in
        record {
          block = other.1.0;
          part = record { block = sibling.block; behind = omega (arith, sibling.behind, small); part = part.1.part; same = sym same ∙ (sym ends ∙ sibling.same) };
          other = first;
          sibling = sibling;
          is_else = other.0;
          earlier = small;
        }

    from : StandsBehindElse u k → first < k
    from behind = omega (arith, is.least behind.other (behind.is_else, (behind.block, behind.sibling)) (behind.sibling.same ∙ (sym behind.part.same ∙ sym same)), behind.earlier)

pub not_behind : (u : List Stmt) (k : ℕ) → (IsPart u k → ⊥) → StandsBehindElse u k → ⊥
not_behind u k other behind = other (behind.block, behind.part)

pub leaves_by : (u : List Stmt) (arms : List ℕ) (d last : ℕ) (b : Bool) → AreArms u arms → d < length u → last ≡ last_of u d → last < length u → Tells b (EndsBefore arms d last) → Tells b (LeavesArm u d)
leaves_by u arms d last b are within same small tells = tells_same b (EndsBefore arms d last) (LeavesArm u d) to from tells
  where
    to : EndsBefore arms d last → LeavesArm u d
    to before = record {
      arm = before.begin;
      range = less_range u d (omega (arith, same, small));
      inside = in_arm u arms before.begin d are before.holds;
      outside = λ inside. omega (arith, (arm_holds u arms before.begin (last_of u d) are inside).within, before.before, same);
    }

    from : LeavesArm u d → EndsBefore arms d last
    from leaves =
        let holds : Holds arms leaves.arm d = arm_holds u arms leaves.arm d are leaves.inside in
        record {
          begin = leaves.arm;
          holds = holds;
          before = ⊎_elim (λ (less : slice_index arms leaves.arm < last). less)
              (λ (more : last ≤ slice_index arms leaves.arm). absurd (leaves.outside (in_arm u arms leaves.arm (last_of u d) are (record { behind = omega (arith, holds.behind, last_above u d within); within = omega (arith, same, more) }))))
              (cases_lt (slice_index arms leaves.arm) last);
        }

pub leaves_none : (u : List Stmt) (d last : ℕ) → last ≡ last_of u d → length u ≤ last → LeavesArm u d → ⊥
leaves_none u d last same large leaves = omega (arith, range_less u d leaves.range, same, large)

pub overlaps_by : (u : List Stmt) (spans : List ℕ) (k : ℕ) (b : Bool) → AreSpans u spans → k < length u → Tells b (EndsBefore spans k (slice_index spans k)) → Tells b (Overlaps u k)
overlaps_by u spans k b are within tells = tells_same b (EndsBefore spans k (slice_index spans k)) (Overlaps u k) to from tells
  where
    to : EndsBefore spans k (slice_index spans k) → Overlaps u k
    to before = record {
      from = before.begin;
      to = slice_index spans before.begin;
      end = slice_index spans k;
      one = (are.each before.begin (omega (arith, before.holds.behind))).span (omega (arith, before.holds.behind, before.holds.within));
      other = (are.each k within).span (omega (arith, before.holds.within, before.before));
      above = before.holds.behind;
      meets = before.holds.within;
      outlasts = before.before;
    }

    from : Overlaps u k → EndsBefore spans k (slice_index spans k)
    from over =
        let one : slice_index spans over.from ≡ over.to = (are.each over.from (omega (arith, over.above))).is over.to over.one in
        let other : slice_index spans k ≡ over.end = (are.each k within).is over.end over.other in
        record {
          begin = over.from;
          holds = record { behind = over.above; within = omega (arith, over.meets) };
          before = omega (arith, over.outlasts);
        }

pub span_most : (u : List Stmt) (spans : List ℕ) (k : ℕ) → AreSpans u spans → k < length u → slice_index spans k ≤ length spans
span_most u spans k are within = omega (arith, (are.each k within).within, are.long)

-- ---- all of them

pub by_end : (u : List Stmt) (k : ℕ) → LacksEnd u k → IsMisnested u k
by_end u k (nests.no_last label e lacks) = checks.no_last label e lacks
by_end u k (nests.no_end e lacks) = checks.no_end e lacks

pub by_block : (u : List Stmt) (k : ℕ) → LacksBlock u k → IsMisnested u k
by_block u k (nests.no_block e lacks) = checks.no_block e lacks
by_block u k (nests.no_begin e lacks) = checks.no_begin e lacks

is_over : (u : List Stmt) (k : ℕ) → (LacksEnd u k → ⊥) → (LacksBlock u k → ⊥) → (StandsBehindElse u k → ⊥) → (LeavesArm u k → ⊥) → IsMisnested u k → Overlaps u k
is_over u k e b s l (checks.no_last label is lacks) = absurd (e (nests.no_last label is lacks))
is_over u k e b s l (checks.no_end is lacks) = absurd (e (nests.no_end is lacks))
is_over u k e b s l (checks.no_block is lacks) = absurd (b (nests.no_block is lacks))
is_over u k e b s l (checks.no_begin is lacks) = absurd (b (nests.no_begin is lacks))
is_over u k e b s l (checks.behind_else is) = absurd (s is)
is_over u k e b s l (checks.leaves_arm is) = absurd (l is)
is_over u k e b s l (checks.overlaps is) = is

pub by_overlap : (u : List Stmt) (k : ℕ) (b : Bool) → (LacksEnd u k → ⊥) → (LacksBlock u k → ⊥) → (StandsBehindElse u k → ⊥) → (LeavesArm u k → ⊥) → Tells b (Overlaps u k) → Tells b (IsMisnested u k)
by_overlap u k b e a s l tells = tells_same b (Overlaps u k) (IsMisnested u k) checks.overlaps (is_over u k e a s l) tells

-- One step along the intervals that hold a place, and what its ends tell.
use Rattle.std.proofs.Math.ListN.{get_or-append}
use Rattle.std.proofs.Math.Seq.{get_or-append_seam}
use Rattle.std.proofs.Common.{◌≡◌, ℕ, zero, suc, ◌+◌, ◌-◌, ◌<◌, ◌≤◌, Bool, true, false, not, ◌||◌, ◌⊎◌, inl, inr, nat_lt, List, [], ◌∷◌, ◌++◌, length-append, length, get_or, slice_index, refl, sym, ap, subst, arith, ⊎_elim}
use Rattle.std.proofs.lemmas.Bool.{cases_lt, cases_eq}
use Rattle.std.proofs.lemmas.Bool.Decides.{nat_tests}
use Rattle.check_jumps.specs.Telling.{Tells}
use Rattle.check_jumps.specs.Intervals.{Holds, IsGreatestBegin, AreGreatestBegins, IsLeastEnd, AreFirstEndings, Enters, EndsBefore}

-- ---- greatest begins

pub begin_most : (ends : List ℕ) (j m : ℕ) → IsGreatestBegin ends j m → m ≤ j
begin_most ends j zero g = omega arith
begin_most ends j (suc h) g = omega (arith, (g.here h refl).behind)

pub step_down : (ends : List ℕ) (j m next : ℕ) → 0 < m → m ≤ j → slice_index ends (m - 1) < j → ((h : ℕ) → Holds ends h j → h < m) → IsGreatestBegin ends (m - 1) next → (h : ℕ) → Holds ends h j → h < next
step_down ends j m next pos most gone above great h holds = great.above h (record {
  behind = ⊎_elim (λ (e : h ≡ m - 1). absurd (omega (arith, holds.within, gone, ap (λ x. slice_index ends x) e))) (λ (ne : h ≡ m - 1 → ⊥). omega (arith, above h holds)) (cases_eq h (m - 1));
  within = omega (arith, holds.within);
})

pub begin_here : (ends : List ℕ) (j m : ℕ) → 0 < m → m ≤ j → j ≤ slice_index ends (m - 1) → ((h : ℕ) → Holds ends h j → h < m) → IsGreatestBegin ends j m
begin_here ends j m pos most reaches above = record {
  above = above;
  here = λ h e. record { behind = omega arith; within = let back : m - 1 ≡ h = omega arith in subst (λ x. j ≤ slice_index ends x) back reaches };
}

pub begin_none : (ends : List ℕ) (j m : ℕ) → m ≤ 0 → ((h : ℕ) → Holds ends h j → h < m) → IsGreatestBegin ends j 0
begin_none ends j m none above = record { above = λ h holds. omega (arith, above h holds); here = λ h e. absurd (omega arith) }

-- ---- least ends

pub end_most : (ends firsts : List ℕ) (j e : ℕ) → j ≤ length ends → IsLeastEnd ends firsts j e → j ≤ e
end_most ends firsts j e within least = ⊎_elim (λ (small : e < length ends). omega (arith, (least.holds small).within, least.ending small)) (λ (large : length ends ≤ e). omega arith) (cases_lt e (length ends))

pub step_up : (ends firsts : List ℕ) (j e next : ℕ) → AreFirstEndings ends 0 firsts → j ≤ e → e < length ends → j ≤ slice_index firsts e → ((h : ℕ) → Holds ends h j → e ≤ slice_index ends h) → IsLeastEnd ends firsts (e + 1) next → (h : ℕ) → Holds ends h j → next ≤ slice_index ends h
step_up ends firsts j e next are most small late below least h holds = least.below h (record {
  behind = omega (arith, holds.behind);
  within = ⊎_elim (λ (same : slice_index ends h ≡ e). absurd (omega (arith, holds.behind, (are.each e small).least h (omega arith) (omega (arith, holds.behind)) same))) (λ (ne : slice_index ends h ≡ e → ⊥). omega (arith, below h holds)) (cases_eq (slice_index ends h) e);
})

pub end_here : (ends firsts : List ℕ) (j e : ℕ) → AreFirstEndings ends 0 firsts → j ≤ e → e < length ends → slice_index firsts e < j → ((h : ℕ) → Holds ends h j → e ≤ slice_index ends h) → IsLeastEnd ends firsts j e
end_here ends firsts j e are most small early below =
    let same : slice_index ends (slice_index firsts e) ≡ e = (are.each e small).here (omega arith) in
    record { below = below; holds = λ _. record { behind = early; within = omega arith }; ending = λ _. same }

pub end_none : (ends firsts : List ℕ) (j e n : ℕ) → n ≡ length ends → n ≤ e → ((h : ℕ) → Holds ends h j → e ≤ slice_index ends h) → IsLeastEnd ends firsts j n
end_none ends firsts j e n same none below = record { below = λ h holds. omega (arith, below h holds); holds = λ small. absurd (omega arith); ending = λ small. absurd (omega arith) }

-- ---- tables

pub pushed_by : {A : Type 0} (R : ℕ → A → Type 0) (d : A) (i : ℕ) (x : A) (xs : List A) → length xs ≡ i → ((k : ℕ) → k < i → R k (get_or xs k d)) → R i x → (k : ℕ) → k < i + 1 → R k (get_or (xs ++ x ∷ []) k d)
pushed_by R d i x xs long before here k small = ⊎_elim
    (λ (e : k ≡ i). subst (λ j. R j (get_or (xs ++ x ∷ []) j d)) (sym e) (subst (λ j. R i (get_or (xs ++ x ∷ []) j d)) long (subst (R i) (sym (get_or-append_seam xs x [] d)) here)))
    (λ (ne : k ≡ i → ⊥). let within : k < length xs = omega arith in rw get_or-append (before k (omega arith)))
    (cases_eq k i)

pub pushed : (R : ℕ → ℕ → Type 0) (i x : ℕ) (xs : List ℕ) → length xs ≡ i → ((k : ℕ) → k < i → R k (slice_index xs k)) → R i x → (k : ℕ) → k < i + 1 → R k (slice_index (xs ++ x ∷ []) k)
pushed R i x xs long before here = pushed_by R 0 i x xs long before here

pub begins_more : (ends : List ℕ) (j m : ℕ) (begins : List ℕ) → AreGreatestBegins ends j begins → IsGreatestBegin ends j m → AreGreatestBegins ends (j + 1) (begins ++ m ∷ [])
begins_more ends j m begins are here = record {
  long = omega (arith, are.long, length-append begins (m ∷ []));
  each = pushed (IsGreatestBegin ends) j m begins are.long are.each here;
}

-- ---- questions

false_is : false ≡ true → ⊥
false_is e = cc

told : (b : Bool) (P : Type 0) → (b ≡ true → P) → (b ≡ false → P → ⊥) → Tells b P
told true P so_is not_is = so_is refl
told false P so_is not_is = not_is refl

pub tells_less : (a b : ℕ) → Tells (nat_lt a b) (a < b)
tells_less a b = told (nat_lt a b) (a < b) (λ e. grind (arith, nat_tests)) (λ e l. grind (arith, nat_tests))

pub tells_same : (b : Bool) (P Q : Type 0) → (P → Q) → (Q → P) → Tells b P → Tells b Q
tells_same true P Q to from h = to h
tells_same false P Q to from h = λ q. h (from q)

pub ends_before : (ends firsts : List ℕ) (j x e : ℕ) → x ≤ length ends → IsLeastEnd ends firsts j e → Tells (nat_lt e x) (EndsBefore ends j x)
ends_before ends firsts j x e within least = tells_same (nat_lt e x) (e < x) (EndsBefore ends j x)
    (λ small. let inside : e < length ends = omega arith in record { begin = slice_index firsts e; holds = least.holds inside; before = omega (arith, least.ending inside) })
    (λ before. omega (arith, least.below before.begin before.holds, before.before))
    (tells_less e x)

pub enters_above : (ends : List ℕ) (k t m : ℕ) → k < t → IsGreatestBegin ends t m → Tells (nat_lt k m) (Enters ends k t)
enters_above ends k t m above greatest = tells_same (nat_lt k m) (k < m) (Enters ends k t)
    (λ later. record { begin = m - 1; holds = greatest.here (m - 1) (omega arith); apart = λ holds. omega (arith, holds.behind) })
    (λ enters. ⊎_elim (λ (early : enters.begin < k). absurd (enters.apart (record { behind = early; within = omega (arith, enters.holds.within) }))) (λ (late : k ≤ enters.begin). omega (arith, greatest.above enters.begin enters.holds)) (cases_lt enters.begin k))
    (tells_less k m)

pub enters_below : (ends firsts : List ℕ) (k t e : ℕ) → t ≤ k → k < length ends → IsLeastEnd ends firsts t e → Tells (nat_lt e k) (Enters ends k t)
enters_below ends firsts k t e below within least = tells_same (nat_lt e k) (e < k) (Enters ends k t)
    (λ small. let inside : e < length ends = omega arith in record { begin = slice_index firsts e; holds = least.holds inside; apart = λ holds. omega (arith, holds.within, least.ending inside) })
    (λ enters. ⊎_elim (λ (early : slice_index ends enters.begin < k). omega (arith, least.below enters.begin enters.holds)) (λ (late : k ≤ slice_index ends enters.begin). absurd (enters.apart (record { behind = omega (arith, enters.holds.behind); within = late }))) (cases_lt (slice_index ends enters.begin) k))
    (tells_less e k)

pub tells_not : (b : Bool) (P : Type 0) → Tells b P → Tells (not b) (P → ⊥)
tells_not true P h = λ f. f h
tells_not false P h = h

pub tells_true : (b : Bool) → Tells b (b ≡ true)
tells_true true = refl
tells_true false = false_is

-- the one or the other
pub tells_either : (b d : Bool) (P Q : Type 0) → Tells b P → Tells d Q → Tells (b || d) (P ⊎ Q)
tells_either true d P Q h g = inl h
tells_either false true P Q h g = inr g
tells_either false false P Q h g = ⊎_elim h g

-- where the first isn't so
pub tells_other : (d : Bool) (P Q : Type 0) → (P → ⊥) → Tells d Q → Tells d (P ⊎ Q)
tells_other true P Q h g = inr g
tells_other false P Q h g = ⊎_elim h g

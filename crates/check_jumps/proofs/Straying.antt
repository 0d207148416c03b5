-- The flags of jumps that go astray.
use Rattle.std.proofs.Common.{◌≡◌, ℕ, ◌+◌, ◌<◌, ◌≤◌, ◌⊎◌, inl, inr, max, Bool, true, false, List, Some, length, get_or, set, slice_get, refl, sym, ◌∙◌, ap, subst, arith, ⊎_elim}
use Rattle.std.proofs.lemmas.Bool.{cases_eq}
use Rattle.std.proofs.lemmas.Option.{slice_get_within, slice_get-get_or}
use Rattle.f77_tree.specs.declared.form.Form.{out-Form}
use Rattle.f77_tree.specs.declared.unit.Stmt.{Stmt}
use Rattle.f77_flow.specs.Kinds.{kind_at}
use Rattle.f77_flow.specs.Labels.{target}
use Rattle.f77_flow.specs.Spans.{IsElse}
use Rattle.f77_flow.specs.Checks.{jump_labels, JumpsAstray, EntersSpan}
use Rattle.check_jumps.specs.Telling.{Tells, AreFlags, Marks}
use Rattle.check_jumps.specs.Astray.{IsAstray, IsToldAt, IsToldOf, IsToldFrom, AreUnset, AreTold}
use Rattle.check_jumps.proofs.Chains.{tells_other}
use Rattle.check_jumps.proofs.Flags.{marks_none, marks_as, marks_then, marks_set}

pub astray_by : (u : List Stmt) (k t : ℕ) (b : Bool) → (IsElse (kind_at u t) → ⊥) → Tells b (EntersSpan u k t) → Tells b (IsAstray u k t)
astray_by u k t b other tells = tells_other b (IsElse (kind_at u t)) (EntersSpan u k t) other tells

-- ---- of one label

pub told_none : (u : List Stmt) (k label t : ℕ) (flags : List Bool) → t ≡ target u label → length u ≤ t → Marks (IsToldAt u k label) flags flags
told_none u k label t flags same far = marks_none (IsToldAt u k label) flags (λ p told. omega (arith, told.stands))

pub told_not : (u : List Stmt) (k label t : ℕ) (flags : List Bool) → t ≡ target u label → (IsAstray u k t → ⊥) → Marks (IsToldAt u k label) flags flags
told_not u k label t flags same right = marks_none (IsToldAt u k label) flags (λ p told. right (subst (IsAstray u k) (sym same) told.astray))

pub told_set : (u : List Stmt) (k label t at : ℕ) (flags new : List Bool) → t ≡ target u label → t < length u → IsAstray u k t → at ≡ max k t → at < length flags → new ≡ set flags at true → Marks (IsToldAt u k label) flags new
told_set u k label t at flags new same small astray e within is = subst (Marks (IsToldAt u k label) flags) (sym is)
    (marks_set (IsToldAt u k label) flags at within
    (record { stands = omega (arith, same); later = e ∙ ap (max k) same; astray = subst (IsAstray u k) same astray })
    (λ p told. told.later ∙ (ap (max k) (sym same) ∙ sym e)))

-- ---- of the labels of a statement

pub told_of_none : (u : List Stmt) (k : ℕ) (labels : List ℕ) (flags : List Bool) → Marks (IsToldOf u k labels 0) flags flags
told_of_none u k labels flags = marks_none (IsToldOf u k labels 0) flags (λ p told. omega (arith, told.early))

same_number : (a b : ℕ) → Some a ≡ Some b → a ≡ b
same_number a b e = cc

same_statement : (a b : Stmt) → Some a ≡ Some b → a ≡ b
same_statement a b e = cc

pub told_of_more : (u : List Stmt) (k i : ℕ) (labels : List ℕ) (old mid new : List Bool) → i < length labels → Marks (IsToldOf u k labels i) old mid → Marks (IsToldAt u k (get_or labels i 0)) mid new → Marks (IsToldOf u k labels (i + 1)) old new
told_of_more u k i labels old mid new small before here = marks_then (IsToldOf u k labels i) (IsToldAt u k (get_or labels i 0)) (IsToldOf u k labels (i + 1)) old mid new
    (λ p told. record { at = told.at; label = told.label; early = omega (arith, told.early); among = told.among; told = told.told })
    (λ p told. record { at = i; label = get_or labels i 0; early = omega arith; among = slice_get-get_or labels i 0 small; told = told })
    either before here
  where
    either : (p : ℕ) → IsToldOf u k labels (i + 1) p → IsToldOf u k labels i p ⊎ IsToldAt u k (get_or labels i 0) p
    either p told = ⊎_elim
        (λ (e : told.at ≡ i). inr (subst (λ label. IsToldAt u k label p) (same_number told.label (get_or labels i 0) (sym told.among ∙ (ap (slice_get labels) e ∙ slice_get-get_or labels i 0 small))) told.told))
        (λ (ne : told.at ≡ i → ⊥). inl (record { at = told.at; label = told.label; early = omega (arith, told.early); among = told.among; told = told.told }))
        (cases_eq told.at i)

pub told_from : (u : List Stmt) (k : ℕ) (s : Stmt) (labels : List ℕ) (old new : List Bool) → slice_get u k ≡ Some s → labels ≡ jump_labels (out-Form s.form) → Marks (IsToldOf u k labels (length labels)) old new → Marks (IsToldFrom u k) old new
told_from u k s labels old new stands same marks = marks_as (IsToldOf u k labels (length labels)) (IsToldFrom u k) old new to from marks
  where
    to : (p : ℕ) → IsToldOf u k labels (length labels) p → IsToldFrom u k p
    to p told = record { label = told.label; jumps = record { statement = s; stands = stands; place = told.at; among = subst (λ ls. slice_get ls told.at ≡ Some told.label) same told.among }; told = told.told }

    from : (p : ℕ) → IsToldFrom u k p → IsToldOf u k labels (length labels) p
    from p told =
        let one : told.jumps.statement ≡ s = same_statement told.jumps.statement s (sym told.jumps.stands ∙ stands) in
        let among : slice_get labels told.jumps.place ≡ Some told.label = ap (λ ls. slice_get ls told.jumps.place) same ∙ (ap (λ (t : Stmt). slice_get (jump_labels (out-Form t.form)) told.jumps.place) (sym one) ∙ told.jumps.among) in
        record { at = told.jumps.place; label = told.label; early = slice_get_within labels told.jumps.place told.label among; among = among; told = told.told }

-- ---- of all statements

pub told_start : (u : List Stmt) (flags : List Bool) → AreUnset (length u) flags → AreTold u 0 flags
told_start u flags unset = record { long = unset.long; set = λ p small told. absurd (omega (arith, told.early)); only = λ p e. absurd (unset.each p e) }

pub told_more : (u : List Stmt) (k : ℕ) (old new : List Bool) → AreTold u k old → Marks (IsToldFrom u k) old new → AreTold u (k + 1) new
told_more u k old new are marks = record {
  long = marks.long ∙ are.long;
  set = λ p small told. ⊎_elim
      (λ (e : told.jump ≡ k). marks.set p (omega (arith, are.long)) (subst (λ j. IsToldFrom u j p) e (record { label = told.label; jumps = told.jumps; told = told.told })))
      (λ (ne : told.jump ≡ k → ⊥). marks.kept p (are.set p small (record { jump = told.jump; label = told.label; early = omega (arith, told.early); jumps = told.jumps; told = told.told })))
      (cases_eq told.jump k);
  only = λ p e. ⊎_elim
      (λ (was : get_or old p false ≡ true). let told = are.only p was in record { jump = told.jump; label = told.label; early = omega (arith, told.early); jumps = told.jumps; told = told.told })
      (λ (from : IsToldFrom u k p). record { jump = k; label = from.label; early = omega arith; jumps = from.jumps; told = from.told })
      (marks.only p e);
}

by_flag : (b : Bool) (P : Type 0) → (b ≡ true → P) → (P → b ≡ true) → Tells b P
by_flag true P to from = to refl
by_flag false P to from = λ p. let e : false ≡ true = from p in cc

pub told_all : (u : List Stmt) (flags : List Bool) → AreTold u (length u) flags → AreFlags (JumpsAstray u) (length u) flags
told_all u flags are = record { long = are.long; each = λ p small. by_flag (get_or flags p false) (JumpsAstray u p) (to p) (from p small) }
  where
    to : (p : ℕ) → get_or flags p false ≡ true → JumpsAstray u p
    to p e = let told = are.only p e in record { jump = told.jump; label = told.label; jumps = told.jumps; stands = told.told.stands; later = told.told.later; astray = told.told.astray }

    from : (p : ℕ) → p < length u → JumpsAstray u p → get_or flags p false ≡ true
    from p small jumps = are.set p small (record { jump = jumps.jump; label = jumps.label; early = slice_get_within u jumps.jump jumps.jumps.statement jumps.jumps.stands; jumps = jumps.jumps; told = record { stands = jumps.stands; later = jumps.later; astray = jumps.astray } })

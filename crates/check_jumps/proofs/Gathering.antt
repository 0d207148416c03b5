-- The first fault of a unit's labels, jumps, DOs and block IFs, and what is known where there is none.
use Rattle.std.proofs.Common.{◌≡◌, ℕ, ◌-◌, ◌<◌, ◌≤◌, ◌⊎◌, inl, inr, max, List, Some, None, length, get_or, slice_get, refl, sym, ◌∙◌, ap, subst, arith, ⊎_elim}
use Rattle.std.specs.declared.option.Option.{Option}
use Rattle.std.proofs.lemmas.Option.{slice_get_within, slice_get_cases}
use Rattle.f77_tree.specs.declared.form.Form.{out-Form}
use Rattle.f77_tree.specs.declared.form.Form.TheOpen.{Form-F}
use Rattle.f77_tree.specs.declared.unit.Stmt.{Stmt}
use Rattle.f77_flow.specs.declared.kinds.Kind.{Kind}
use Rattle.f77_flow.specs.declared.kinds.Kind.TheVariants.{Declaration, BlockIf, ElseIf, Else, EndIf, Do}
use Rattle.f77_flow.specs.Kinds.{kind_at}
use Rattle.f77_flow.specs.Labels.{target}
use Rattle.f77_flow.specs.Spans as spans
use Rattle.f77_flow.specs.Spans.{IsElse, IsSpan}
use Rattle.f77_flow.specs.Checks as checks
use Rattle.f77_flow.specs.Checks.{JumpsNowhere, RepeatsLabel, JumpsAstray, EndsLoopBadly, IsMisnested, PassedChecks}
use Rattle.fault_marks.specs.declared.marks.Mark.{Mark}
use Rattle.fault_marks.specs.Earliest.{Earliest, first_of}
use Rattle.fault_marks.specs.Places.{ShowsAt}
use Rattle.fault_marks.proofs.Firsts.{mapped, either}
use Rattle.check_jumps.specs.Faults as faults
use Rattle.check_jumps.specs.Faults.{JumpFaults}
use Rattle.check_jumps.proofs.Above.{kind_within}
use Rattle.check_jumps.proofs.Opening.{block_within}
use Rattle.check_jumps.proofs.Spanning.{range_within}

abbrev Labelled : List Stmt → Mark → Type 0
Labelled u m = ShowsAt u (JumpsNowhere u) 14 0 m ⊎ ShowsAt u (RepeatsLabel u) 15 0 m

abbrev Ended : List Stmt → Mark → Type 0
Ended u m = ShowsAt u (EndsLoopBadly u) 17 0 m ⊎ ShowsAt u (IsMisnested u) 18 0 m

abbrev Jumped : List Stmt → Mark → Type 0
Jumped u m = ShowsAt u (JumpsAstray u) 16 0 m ⊎ Ended u m

to : (u : List Stmt) (m : Mark) → Labelled u m ⊎ Jumped u m → JumpFaults u m
to u m (inl (inl h)) = faults.nowhere h
to u m (inl (inr h)) = faults.repeated h
to u m (inr (inl h)) = faults.astray h
to u m (inr (inr (inl h))) = faults.bad_end h
to u m (inr (inr (inr h))) = faults.misnested h

from : (u : List Stmt) (m : Mark) → JumpFaults u m → Labelled u m ⊎ Jumped u m
from u m (faults.nowhere h) = inl (inl h)
from u m (faults.repeated h) = inl (inr h)
from u m (faults.astray h) = inr (inl h)
from u m (faults.bad_end h) = inr (inr (inl h))
from u m (faults.misnested h) = inr (inr (inr h))

pub all_faults : (u : List Stmt) (n r a b m : Option Mark) → Earliest (ShowsAt u (JumpsNowhere u) 14 0) n → Earliest (ShowsAt u (RepeatsLabel u) 15 0) r → Earliest (ShowsAt u (JumpsAstray u) 16 0) a → Earliest (ShowsAt u (EndsLoopBadly u) 17 0) b → Earliest (ShowsAt u (IsMisnested u) 18 0) m
    → Earliest (JumpFaults u) (first_of (first_of n r) (first_of a (first_of b m)))
all_faults u n r a b m nowhere repeated astray bad misnested =
    mapped (λ k. Labelled u k ⊎ Jumped u k) (JumpFaults u) (first_of (first_of n r) (first_of a (first_of b m))) (to u) (from u)
    (either (Labelled u) (Jumped u) (first_of n r) (first_of a (first_of b m))
    (either (ShowsAt u (JumpsNowhere u) 14 0) (ShowsAt u (RepeatsLabel u) 15 0) n r nowhere repeated)
    (either (ShowsAt u (JumpsAstray u) 16 0) (Ended u) a (first_of b m) astray
    (either (ShowsAt u (EndsLoopBadly u) 17 0) (ShowsAt u (IsMisnested u) 18 0) b m bad misnested)))

pub all_by : (u : List Stmt) (n r a b m l e j f : Option Mark) → l ≡ first_of n r → e ≡ first_of b m → j ≡ first_of a e → f ≡ first_of l j → Earliest (ShowsAt u (JumpsNowhere u) 14 0) n → Earliest (ShowsAt u (RepeatsLabel u) 15 0) r → Earliest (ShowsAt u (JumpsAstray u) 16 0) a → Earliest (ShowsAt u (EndsLoopBadly u) 17 0) b → Earliest (ShowsAt u (IsMisnested u) 18 0) m
    → Earliest (JumpFaults u) f
all_by u n r a b m l e j f is_l is_e is_j is_f nowhere repeated astray bad misnested =
    subst (Earliest (JumpFaults u)) (sym (is_f ∙ (ap (λ x. first_of x j) is_l ∙ ap (first_of (first_of n r)) (is_j ∙ ap (first_of a) is_e))))
    (all_faults u n r a b m nowhere repeated astray bad misnested)

-- ---- none of them

shown : (u : List Stmt) (Holds : ℕ → Type 0) (number k : ℕ) (s : Stmt) → slice_get u k ≡ Some s → Holds k → ShowsAt u Holds number 0 (record { line = s.line; number = number; limit = 0 })
shown u Holds number k s stands holds = record { place = k; statement = s; stands = stands; holds = holds; line_is = refl; number_is = refl; limit_is = refl }

statement_at : (u : List Stmt) (k : ℕ) → k < length u → (s : Stmt) × (slice_get u k ≡ Some s)
statement_at u k small = ⊎_elim
    (λ (found : (x : Stmt) × (k < length u) × (slice_get u k ≡ Some x) × (get_or u k x ≡ x)). (found.0, found.2))
    (λ (past : (length u ≤ k) × (slice_get u k ≡ None)). absurd (omega (arith, past.0)))
    (slice_get_cases u k).1

do_declared : (label : ℕ) → Do label ≡ Declaration → ⊥
do_declared label e = cc

end_declared : EndIf ≡ Declaration → ⊥
end_declared e = cc

block_declared : BlockIf ≡ Declaration → ⊥
block_declared e = cc

else_declared : (v : Kind) → IsElse v → v ≡ Declaration → ⊥
else_declared ElseIf h = λ e. cc
else_declared Else h = λ e. cc
else_declared _ h = absurd h

span_within : (u : List Stmt) (k end : ℕ) → IsSpan u k end → k < length u
span_within u k end (spans.loop range e) = range_within u k range
span_within u k end (spans.block block e) = block_within u k block

misnested_within : (u : List Stmt) (k : ℕ) → IsMisnested u k → k < length u
misnested_within u k (checks.no_last label is lacks) = kind_within u k (λ e. do_declared label (sym is ∙ e))
misnested_within u k (checks.no_end is lacks) = kind_within u k (λ e. block_declared (sym is ∙ e))
misnested_within u k (checks.no_block is lacks) = kind_within u k (else_declared (kind_at u k) is)
misnested_within u k (checks.no_begin is lacks) = kind_within u k (λ e. end_declared (sym is ∙ e))
misnested_within u k (checks.behind_else is) = kind_within u k (else_declared (kind_at u k) is.part.part)
misnested_within u k (checks.leaves_arm is) = range_within u k is.range
misnested_within u k (checks.overlaps is) = span_within u k is.end is.other

max_within : (a b n : ℕ) → a < n → b < n → max a b < n
max_within a b n h g = omega arith

-- Without a fault the unit's labels, jumps and nesting are as the flow needs them. That the last statement is END comes from elsewhere.
pub passes : (u : List Stmt) (last : Stmt) → Earliest (JumpFaults u) None → slice_get u (length u - 1) ≡ Some last → out-Form last.form ≡ Form-F.End → PassedChecks u
passes u last none stands end = record {
  jumps = λ k fault. none _ (faults.nowhere (shown u (JumpsNowhere u) 14 k fault.jumps.statement fault.jumps.stands fault));
  targets = λ k fault.
      let jump : fault.jump < length u = slice_get_within u fault.jump fault.jumps.statement fault.jumps.stands in
      let at = statement_at u k (omega (arith, fault.later, max_within fault.jump (target u fault.label) (length u) jump fault.stands)) in
      none _ (faults.astray (shown u (JumpsAstray u) 16 k at.0 at.1 fault));
  lasts = λ k fault. none _ (faults.bad_end (shown u (EndsLoopBadly u) 17 k fault.statement fault.stands fault));
  nests = λ k fault. let at = statement_at u k (misnested_within u k fault) in none _ (faults.misnested (shown u (IsMisnested u) 18 k at.0 at.1 fault));
  last = last;
  stands = stands;
  end = end;
}

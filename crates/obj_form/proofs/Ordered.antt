-- Runs in order, as neighbours are looked at.
use Rattle.std.proofs.Common.{◌≡◌, ℕ, ◌+◌, ◌-◌, ◌<◌, ◌≤◌, List, length, get_or, Some, ap, subst, ◌∙◌, inl, inr, arith}
use Rattle.std.specs.List.{slice_get}
use Rattle.std.proofs.lemmas.Bool.{cases_lt}
use Rattle.std.proofs.lemmas.Option.{get_or_from_slice_get, slice_get-get_or, slice_get_within}
use Rattle.obj_form.specs.declared.object.InitialRun.{InitialRun}
use Rattle.obj_form.specs.Objects.{AreRuns, IsBefore}

-- the first n runs are in order
abbrev pub InOrder : ℕ → List InitialRun → Type 0
InOrder n runs = (i : ℕ) (r s : InitialRun) → i + 1 < n → slice_get runs i ≡ Some r → slice_get runs (i + 1) ≡ Some s → IsBefore r s

pub in_order_first : (runs : List InitialRun) → InOrder 1 runs
in_order_first runs i r s within ri si = absurd (omega arith)

pub in_order_more : (runs : List InitialRun) (at : ℕ) (x y : InitialRun) → InOrder at runs
    → IsBefore (get_or runs (at - 1) x) (get_or runs at y) → InOrder (at + 1) runs
in_order_more runs at x y front last i r s within ri si = elim (cases_lt (i + 1) at) [
  | inl below ↦ front i r s below ri si
  | inr top ↦
      let here : at ≡ i + 1 = omega arith in
      let before : at - 1 ≡ i = omega arith in
      let first : get_or runs (at - 1) x ≡ r = ap (λ k. get_or runs k x) before ∙ get_or_from_slice_get runs i r x ri in
      let second : get_or runs at y ≡ s = ap (λ k. get_or runs k y) here ∙ get_or_from_slice_get runs (i + 1) s y si in
      subst (λ a. IsBefore a s) first (subst (IsBefore (get_or runs (at - 1) x)) second last)
]

pub in_order_all : (runs : List InitialRun) (n : ℕ) → length runs ≤ n → InOrder n runs → AreRuns runs
in_order_all runs n all front i r s ri si =
    let inside = slice_get_within runs (i + 1) s si in
    front i r s (omega arith) ri si

pub neighbours : (runs : List InitialRun) (at : ℕ) (x y : InitialRun) → 1 ≤ at → at < length runs → AreRuns runs
    → IsBefore (get_or runs (at - 1) x) (get_or runs at y)
neighbours runs at x y start within all =
    let next : at - 1 + 1 ≡ at = omega arith in
    all (at - 1) (get_or runs (at - 1) x) (get_or runs at y)
    (slice_get-get_or runs (at - 1) x (omega arith))
    (ap (slice_get runs) next ∙ slice_get-get_or runs at y within)

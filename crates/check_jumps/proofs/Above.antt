-- Where spans and arms end is behind where they begin.
use Rattle.std.proofs.Common.{◌≡◌, ℕ, zero, suc, ◌<◌, ◌≤◌, Bool, true, false, cond, List, [], ◌∷◌, None, Some, length, drop, refl, ◌∙◌, ap, arith, ⊎_elim}
use Rattle.std.proofs.lemmas.Bool.{cases_lt}
use Rattle.std.proofs.lemmas.Option.{slice_get_past}
use Rattle.f77_tree.specs.declared.unit.Stmt.{Stmt}
use Rattle.f77_flow.specs.declared.kinds.Kind.{Kind}
use Rattle.f77_flow.specs.declared.kinds.Kind.TheVariants.{Declaration, BlockIf, ElseIf, Else, EndIf, Do}
use Rattle.f77_flow.specs.Kinds.{kind, kind_at}
use Rattle.f77_flow.specs.Labels.{first_with, has_label, last_of}
use Rattle.f77_flow.specs.Blocks.{next_end, next_part, end_if, arm_end}

choice : (b : Bool) (x y n : ℕ) → n ≤ x → n ≤ y → n ≤ cond b x y
choice true x y n h g = h
choice false x y n h g = g

first_with_from : (test : Stmt → Bool) (k : ℕ) (ss : List Stmt) → k ≤ first_with test k ss
first_with_from test k [] = omega arith
first_with_from test k (s ∷ ss) = choice (test s) k (first_with test (suc k) ss) k (omega arith) (omega (arith, first_with_from test (suc k) ss))

next_end_from : (level k : ℕ) (ss : List Stmt) → k ≤ next_end level k ss
next_end_from level k [] = omega arith
next_end_from level k (s ∷ ss) = elim (kind s) as (λ v. k ≤ (elim v [ BlockIf ↦ next_end (suc level) (suc k) ss | EndIf ↦ elim level [ zero ↦ k | suc outer ↦ next_end outer (suc k) ss ] | _ ↦ next_end level (suc k) ss ])) [
  | BlockIf ↦ omega (arith, next_end_from (suc level) (suc k) ss)
  | EndIf ↦ elim level as (λ l. k ≤ (elim l [ zero ↦ k | suc outer ↦ next_end outer (suc k) ss ])) [ zero ↦ omega arith | suc outer ↦ omega (arith, next_end_from outer (suc k) ss) ]
  | _ ↦ omega (arith, next_end_from level (suc k) ss)
]

next_part_from : (level k : ℕ) (ss : List Stmt) → k ≤ next_part level k ss
next_part_from level k [] = omega arith
next_part_from level k (s ∷ ss) = elim (kind s) as (λ v. k ≤ (elim v [ BlockIf ↦ next_part (suc level) (suc k) ss | ElseIf ↦ elim level [ zero ↦ k | suc outer ↦ next_part (suc outer) (suc k) ss ] | Else ↦ elim level [ zero ↦ k | suc outer ↦ next_part (suc outer) (suc k) ss ] | EndIf ↦ elim level [ zero ↦ k | suc outer ↦ next_part outer (suc k) ss ] | _ ↦ next_part level (suc k) ss ])) [
  | BlockIf ↦ omega (arith, next_part_from (suc level) (suc k) ss)
  | ElseIf ↦ elim level as (λ l. k ≤ (elim l [ zero ↦ k | suc outer ↦ next_part (suc outer) (suc k) ss ])) [ zero ↦ omega arith | suc outer ↦ omega (arith, next_part_from (suc outer) (suc k) ss) ]
  | Else ↦ elim level as (λ l. k ≤ (elim l [ zero ↦ k | suc outer ↦ next_part (suc outer) (suc k) ss ])) [ zero ↦ omega arith | suc outer ↦ omega (arith, next_part_from (suc outer) (suc k) ss) ]
  | EndIf ↦ elim level as (λ l. k ≤ (elim l [ zero ↦ k | suc outer ↦ next_part outer (suc k) ss ])) [ zero ↦ omega arith | suc outer ↦ omega (arith, next_part_from outer (suc k) ss) ]
  | _ ↦ omega (arith, next_part_from level (suc k) ss)
]

pub end_above : (u : List Stmt) (k : ℕ) → k < end_if u k
end_above u k = omega (arith, next_end_from 0 (suc k) (drop (suc k) u))

pub arm_above : (u : List Stmt) (k : ℕ) → k < arm_end u k
arm_above u k = omega (arith, next_part_from 0 (suc k) (drop (suc k) u))

-- what stands at k stands in the list
pub kind_within : (u : List Stmt) (k : ℕ) → (kind_at u k ≡ Declaration → ⊥) → k < length u
kind_within u k other = ⊎_elim (λ (small : k < length u). small) (λ (large : length u ≤ k). absurd (other (ap (λ o. elim o [ None ↦ Declaration | Some t ↦ kind t ]) (slice_get_past u k large)))) (cases_lt k (length u))

last_by : (u : List Stmt) (k : ℕ) (v : Kind) → k < length u → k < elim v [ Do label ↦ first_with (has_label label) (suc k) (drop (suc k) u) | _ ↦ length u ]
last_by u k (Do label) within = omega (arith, first_with_from (has_label label) (suc k) (drop (suc k) u))
last_by u k _ within = within

pub last_above : (u : List Stmt) (k : ℕ) → k < length u → k < last_of u k
last_above u k within = last_by u k (kind_at u k) within

-- what is no DO has no last statement
pub no_last : (u : List Stmt) (k : ℕ) (v : Kind) → kind_at u k ≡ v → ((label : ℕ) → v ≡ Do label → ⊥) → last_of u k ≡ length u
no_last u k v is other =
    let last : Kind → ℕ = λ w. elim w [ Do label ↦ first_with (has_label label) (suc k) (drop (suc k) u) | _ ↦ length u ] in
    ap last is ∙ last_is v other
  where
    last_is : (w : Kind) → ((label : ℕ) → w ≡ Do label → ⊥) → elim w [ Do label ↦ first_with (has_label label) (suc k) (drop (suc k) u) | _ ↦ length u ] ≡ length u
    last_is (Do label) isnt = absurd (isnt label refl)
    last_is _ isnt = refl

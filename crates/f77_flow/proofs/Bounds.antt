-- Where control goes is at most the number of statements.
use Rattle.std.proofs.Common.{ℕ, zero, suc, ◌+◌, ◌<◌, ◌≤◌, Bool, true, false, cond, List, [], ◌∷◌, length, drop, arith, length-drop}
use Rattle.f77_tree.specs.declared.unit.Stmt.{Stmt}
use Rattle.f77_flow.specs.declared.kinds.Kind.TheVariants.{Declaration, BlockIf, ElseIf, Else, EndIf}
use Rattle.f77_flow.specs.Kinds.{kind}
use Rattle.f77_flow.specs.Labels.{first_with, is_target, target}
use Rattle.f77_flow.specs.Blocks.{next_end, next_test, coming, otherwise, below}

choice : (b : Bool) (x y n : ℕ) → x ≤ n → y ≤ n → cond b x y ≤ n
choice true x y n h g = h
choice false x y n h g = g

pub first_with_within : (test : Stmt → Bool) (k : ℕ) (ss : List Stmt) → first_with test k ss ≤ k + length ss
first_with_within test k [] = omega arith
first_with_within test k (s ∷ ss) = choice (test s) k (first_with test (suc k) ss) (k + length (s ∷ ss)) (omega arith) (omega (arith, first_with_within test (suc k) ss))

pub next_end_within : (level k : ℕ) (ss : List Stmt) → next_end level k ss ≤ k + length ss
next_end_within level k [] = omega arith
next_end_within level k (s ∷ ss) = elim (kind s) as (λ v. (elim v [ BlockIf ↦ next_end (suc level) (suc k) ss | EndIf ↦ elim level [ zero ↦ k | suc outer ↦ next_end outer (suc k) ss ] | _ ↦ next_end level (suc k) ss ]) ≤ k + length (s ∷ ss)) [
  | BlockIf ↦ omega (arith, next_end_within (suc level) (suc k) ss)
  | EndIf ↦ elim level as (λ l. (elim l [ zero ↦ k | suc outer ↦ next_end outer (suc k) ss ]) ≤ k + length (s ∷ ss)) [ zero ↦ omega arith | suc outer ↦ omega (arith, next_end_within outer (suc k) ss) ]
  | _ ↦ omega (arith, next_end_within level (suc k) ss)
]

pub coming_within : (k : ℕ) (ss : List Stmt) → coming k ss ≤ k + length ss
coming_within k [] = omega arith
coming_within k (s ∷ ss) = elim (kind s) as (λ v. (elim v [ Declaration ↦ coming (suc k) ss | ElseIf ↦ next_end 0 (suc k) ss | Else ↦ next_end 0 (suc k) ss | _ ↦ k ]) ≤ k + length (s ∷ ss)) [
  | Declaration ↦ omega (arith, coming_within (suc k) ss)
  | ElseIf ↦ omega (arith, next_end_within 0 (suc k) ss)
  | Else ↦ omega (arith, next_end_within 0 (suc k) ss)
  | _ ↦ omega arith
]

pub next_test_within : (level k : ℕ) (ss : List Stmt) → next_test level k ss ≤ k + length ss
next_test_within level k [] = omega arith
next_test_within level k (s ∷ ss) = elim (kind s) as (λ v. (elim v [ BlockIf ↦ next_test (suc level) (suc k) ss | ElseIf ↦ elim level [ zero ↦ k | suc outer ↦ next_test (suc outer) (suc k) ss ] | Else ↦ elim level [ zero ↦ coming (suc k) ss | suc outer ↦ next_test (suc outer) (suc k) ss ] | EndIf ↦ elim level [ zero ↦ k | suc outer ↦ next_test outer (suc k) ss ] | _ ↦ next_test level (suc k) ss ]) ≤ k + length (s ∷ ss)) [
  | BlockIf ↦ omega (arith, next_test_within (suc level) (suc k) ss)
  | ElseIf ↦ elim level as (λ l. (elim l [ zero ↦ k | suc outer ↦ next_test (suc outer) (suc k) ss ]) ≤ k + length (s ∷ ss)) [ zero ↦ omega arith | suc outer ↦ omega (arith, next_test_within (suc outer) (suc k) ss) ]
  | Else ↦ elim level as (λ l. (elim l [ zero ↦ coming (suc k) ss | suc outer ↦ next_test (suc outer) (suc k) ss ]) ≤ k + length (s ∷ ss)) [ zero ↦ omega (arith, coming_within (suc k) ss) | suc outer ↦ omega (arith, next_test_within (suc outer) (suc k) ss) ]
  | EndIf ↦ elim level as (λ l. (elim l [ zero ↦ k | suc outer ↦ next_test outer (suc k) ss ]) ≤ k + length (s ∷ ss)) [ zero ↦ omega arith | suc outer ↦ omega (arith, next_test_within outer (suc k) ss) ]
  | _ ↦ omega (arith, next_test_within level (suc k) ss)
]

pub target_within : (u : List Stmt) (label : ℕ) → target u label ≤ length u
target_within u label = omega (arith, first_with_within (is_target label) 0 u)

pub below_within : (u : List Stmt) (k : ℕ) → k < length u → below u k ≤ length u
below_within u k h = omega (arith, coming_within (suc k) (drop (suc k) u), length-drop (suc k) u)

pub otherwise_within : (u : List Stmt) (k : ℕ) → k < length u → otherwise u k ≤ length u
otherwise_within u k h = omega (arith, next_test_within 0 (suc k) (drop (suc k) u), length-drop (suc k) u)

pub ruleset bounds = (target_within, below_within, otherwise_within)

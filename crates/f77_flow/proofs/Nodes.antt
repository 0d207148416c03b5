-- In a unit that passed its checks control goes to statements with which a step may begin.
use Rattle.std.proofs.Common.{◌≡◌, ◌≢◌, ℕ, zero, suc, ◌<◌, ◌≤◌, true, false, None, Some, List, [], ◌∷◌, length, drop, slice_get, refl, sym, ◌∙◌, ap, subst, arith, length-drop}
use Rattle.std.proofs.lemmas.Option.{slice_get_within}
use Rattle.f77_tree.specs.declared.unit.Stmt.{Stmt}
use Rattle.f77_flow.specs.declared.kinds.Kind.{Kind}
use Rattle.f77_flow.specs.declared.kinds.Kind.TheVariants.{Declaration, BlockIf, ElseIf, Else, EndIf, Do, Plain}
use Rattle.f77_flow.specs.Kinds.{kind, kind_at, is_executable}
use Rattle.f77_flow.specs.Blocks.{next_end, next_test, coming, end_if}
use Rattle.f77_flow.specs.Spans.{IsElse}
use Rattle.f77_flow.specs.Checks.{IsNode}

-- the front of what is left from k on
pub front_at : (u : List Stmt) (k : ℕ) (s : Stmt) (ss : List Stmt) → drop k u ≡ s ∷ ss → slice_get u k ≡ Some s
front_at [] zero s ss e = let no : [] ≡ s ∷ ss = e in cc
front_at [] (suc k) s ss e = let no : [] ≡ s ∷ ss = e in cc
front_at (t ∷ u) zero s ss e = let both : t ∷ u ≡ s ∷ ss = e in cc
front_at (t ∷ u) (suc k) s ss e = front_at u k s ss e

pub rest_at : (u : List Stmt) (k : ℕ) (s : Stmt) (ss : List Stmt) → drop k u ≡ s ∷ ss → drop (suc k) u ≡ ss
rest_at [] zero s ss e = let no : [] ≡ s ∷ ss = e in cc
rest_at [] (suc k) s ss e = let no : [] ≡ s ∷ ss = e in cc
rest_at (t ∷ u) zero s ss e = let both : t ∷ u ≡ s ∷ ss = e in cc
rest_at (t ∷ u) (suc k) s ss e = rest_at u k s ss e

pub kind_here : (u : List Stmt) (k : ℕ) (s : Stmt) → slice_get u k ≡ Some s → kind_at u k ≡ kind s
kind_here u k s stands = ap (λ o. elim o [ None ↦ Declaration | Some t ↦ kind t ]) stands

pub nothing_left : (u : List Stmt) (k : ℕ) → drop k u ≡ [] → length u ≤ k
nothing_left u k e = omega (arith, ap length e, length-drop k u)

node : (u : List Stmt) (k : ℕ) (s : Stmt) (v : Kind) → slice_get u k ≡ Some s → kind s ≡ v → is_executable v ≡ true → v ≢ Else → IsNode u k
node u k s v stands is executable other =
    let here : kind_at u k ≡ v = kind_here u k s stands ∙ is in
    record {
      within = slice_get_within u k s stands;
      executable = ap is_executable here ∙ executable;
      no_else = λ e. other (sym here ∙ e);
    }

end_node : (u : List Stmt) (k : ℕ) → k < length u → kind_at u k ≡ EndIf → IsNode u k
end_node u k within is = record { within = within; executable = ap is_executable is; no_else = λ e. let no : EndIf ≡ Else = sym is ∙ e in cc }

-- what an END IF of some level is
end_is : (u : List Stmt) (level k : ℕ) (ss : List Stmt) → drop k u ≡ ss → next_end level k ss < length u → kind_at u (next_end level k ss) ≡ EndIf
end_is u level k [] left = λ within. absurd (omega (arith, nothing_left u k left))
end_is u level k (s ∷ ss) left = elim (kind s) as (λ v. kind s ≡ v → (elim v [ BlockIf ↦ next_end (suc level) (suc k) ss | EndIf ↦ elim level [ zero ↦ k | suc outer ↦ next_end outer (suc k) ss ] | _ ↦ next_end level (suc k) ss ]) < length u → kind_at u (elim v [ BlockIf ↦ next_end (suc level) (suc k) ss | EndIf ↦ elim level [ zero ↦ k | suc outer ↦ next_end outer (suc k) ss ] | _ ↦ next_end level (suc k) ss ]) ≡ EndIf) [
  | BlockIf ↦ λ is within. end_is u (suc level) (suc k) ss (rest_at u k s ss left) within
  | EndIf ↦ λ is. elim level as (λ l. (elim l [ zero ↦ k | suc outer ↦ next_end outer (suc k) ss ]) < length u → kind_at u (elim l [ zero ↦ k | suc outer ↦ next_end outer (suc k) ss ]) ≡ EndIf) [
    | zero ↦ λ within. kind_here u k s (front_at u k s ss left) ∙ is
    | suc outer ↦ λ within. end_is u outer (suc k) ss (rest_at u k s ss left) within
  ]
  | _ ↦ λ is within. end_is u level (suc k) ss (rest_at u k s ss left) within
] refl

-- and it stands at or below the beginning of what is searched
end_above : (level k : ℕ) (ss : List Stmt) → k ≤ next_end level k ss
end_above level k [] = omega arith
end_above level k (s ∷ ss) = elim (kind s) as (λ v. k ≤ (elim v [ BlockIf ↦ next_end (suc level) (suc k) ss | EndIf ↦ elim level [ zero ↦ k | suc outer ↦ next_end outer (suc k) ss ] | _ ↦ next_end level (suc k) ss ])) [
  | BlockIf ↦ omega (arith, end_above (suc level) (suc k) ss)
  | EndIf ↦ elim level as (λ l. k ≤ (elim l [ zero ↦ k | suc outer ↦ next_end outer (suc k) ss ])) [ zero ↦ omega arith | suc outer ↦ omega (arith, end_above outer (suc k) ss) ]
  | _ ↦ omega (arith, end_above level (suc k) ss)
]

-- each ELSE IF and ELSE has an END IF
abbrev pub Parts : List Stmt → Type 0
Parts u = (i : ℕ) → IsElse (kind_at u i) → end_if u i < length u

arm_ends : (u : List Stmt) (k : ℕ) (s : Stmt) (ss : List Stmt) (v : Kind) → drop k u ≡ s ∷ ss → kind s ≡ v → IsElse v → Parts u → next_end 0 (suc k) ss < length u
arm_ends u k s ss v left is is_else parts =
    let at : kind_at u k ≡ v = kind_here u k s (front_at u k s ss left) ∙ is in
    subst (λ xs. next_end 0 (suc k) xs < length u) (rest_at u k s ss left) (parts k (subst IsElse (sym at) is_else))

arm_node : (u : List Stmt) (k : ℕ) (s : Stmt) (ss : List Stmt) (v : Kind) → drop k u ≡ s ∷ ss → kind s ≡ v → IsElse v → Parts u → IsNode u (next_end 0 (suc k) ss)
arm_node u k s ss v left is is_else parts =
    let within = arm_ends u k s ss v left is is_else parts in
    end_node u (next_end 0 (suc k) ss) within (end_is u 0 (suc k) ss (rest_at u k s ss left) within)

no_declaration : (u : List Stmt) (k e : ℕ) (s : Stmt) → slice_get u k ≡ Some s → kind s ≡ Declaration → is_executable (kind_at u e) ≡ true → k ≡ e → ⊥
no_declaration u k e s stands is executable same =
    let no : false ≡ true = sym (ap is_executable (kind_here u k s stands ∙ is)) ∙ (ap (λ i. is_executable (kind_at u i)) same ∙ executable) in cc

pub coming_node : (u : List Stmt) (k : ℕ) (ss : List Stmt) → drop k u ≡ ss → Parts u → (e : ℕ) → k ≤ e → e < length u → is_executable (kind_at u e) ≡ true → IsNode u (coming k ss)
coming_node u k [] left parts e above within executable = absurd (omega (arith, nothing_left u k left))
coming_node u k (s ∷ ss) left parts e above within executable =
    let stands = front_at u k s ss left in
    elim (kind s) as (λ v. kind s ≡ v → IsNode u (elim v [ Declaration ↦ coming (suc k) ss | ElseIf ↦ next_end 0 (suc k) ss | Else ↦ next_end 0 (suc k) ss | _ ↦ k ])) [
      | Declaration ↦ λ is. let other : k ≡ e → ⊥ = no_declaration u k e s stands is executable in coming_node u (suc k) ss (rest_at u k s ss left) parts e (omega arith) within executable
      | ElseIf ↦ λ is. arm_node u k s ss ElseIf left is tt parts
      | Else ↦ λ is. arm_node u k s ss Else left is tt parts
      | BlockIf ↦ λ is. node u k s BlockIf stands is refl (λ x. cc)
      | EndIf ↦ λ is. node u k s EndIf stands is refl (λ x. cc)
      | Do label ↦ λ is. node u k s (Do label) stands is refl (λ x. cc)
      | Plain ↦ λ is. node u k s Plain stands is refl (λ x. cc)
    ] refl

pub test_node : (u : List Stmt) (level k : ℕ) (ss : List Stmt) → drop k u ≡ ss → Parts u → next_end level k ss < length u → IsNode u (next_test level k ss)
test_node u level k [] left parts = λ within. absurd (omega (arith, nothing_left u k left))
test_node u level k (s ∷ ss) left parts =
    let stands = front_at u k s ss left in
    let rest = rest_at u k s ss left in
    elim (kind s) as (λ v. kind s ≡ v
    → (elim v [ BlockIf ↦ next_end (suc level) (suc k) ss | EndIf ↦ elim level [ zero ↦ k | suc outer ↦ next_end outer (suc k) ss ] | _ ↦ next_end level (suc k) ss ]) < length u
    → IsNode u (elim v [ BlockIf ↦ next_test (suc level) (suc k) ss | ElseIf ↦ elim level [ zero ↦ k | suc outer ↦ next_test (suc outer) (suc k) ss ] | Else ↦ elim level [ zero ↦ coming (suc k) ss | suc outer ↦ next_test (suc outer) (suc k) ss ] | EndIf ↦ elim level [ zero ↦ k | suc outer ↦ next_test outer (suc k) ss ] | _ ↦ next_test level (suc k) ss ])) [
      | BlockIf ↦ λ is within. test_node u (suc level) (suc k) ss rest parts within
      | ElseIf ↦ λ is. elim level as (λ l. next_end l (suc k) ss < length u → IsNode u (elim l [ zero ↦ k | suc outer ↦ next_test (suc outer) (suc k) ss ])) [
        | zero ↦ λ within. node u k s ElseIf stands is refl (λ x. cc)
        | suc outer ↦ λ within. test_node u (suc outer) (suc k) ss rest parts within
      ]
      | Else ↦ λ is. elim level as (λ l. next_end l (suc k) ss < length u → IsNode u (elim l [ zero ↦ coming (suc k) ss | suc outer ↦ next_test (suc outer) (suc k) ss ])) [
        | zero ↦ λ within. coming_node u (suc k) ss rest parts (next_end 0 (suc k) ss) (end_above 0 (suc k) ss) within (ap is_executable (end_is u 0 (suc k) ss rest within))
        | suc outer ↦ λ within. test_node u (suc outer) (suc k) ss rest parts within
      ]
      | EndIf ↦ λ is. elim level as (λ l. (elim l [ zero ↦ k | suc outer ↦ next_end outer (suc k) ss ]) < length u → IsNode u (elim l [ zero ↦ k | suc outer ↦ next_test outer (suc k) ss ])) [
        | zero ↦ λ within. node u k s EndIf stands is refl (λ x. cc)
        | suc outer ↦ λ within. test_node u outer (suc k) ss rest parts within
      ]
      | _ ↦ λ is within. test_node u level (suc k) ss rest parts within
    ] refl

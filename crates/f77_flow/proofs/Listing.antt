-- The list of what may begin after each statement, as one more is added.
use Rattle.std.proofs.Common.{◌≡◌, ℕ, ◌+◌, ◌<◌, ◌≤◌, Some, List, [], ◌∷◌, ◌++◌, length, slice_get, sym, ◌∙◌, ap, subst, arith, ⊎_elim, get_or, length-append}
use Rattle.std.proofs.Math.ListN.{get_or-append}
use Rattle.std.proofs.Math.Seq.{get_or-append_seam}
use Rattle.std.specs.List.{All}
use Rattle.std.proofs.lemmas.Bool.{cases_eq}
use Rattle.std.proofs.lemmas.Option.{slice_get_within, slice_get-get_or, get_or_from_slice_get}
use Rattle.f77_tree.specs.declared.unit.Stmt.{Stmt}
use Rattle.f77_flow.specs.Graph.{Point, At, follow}
use Rattle.f77_flow.specs.Next as n
use Rattle.f77_flow.specs.Next.{IsNext}
use Rattle.f77_flow.specs.Adding.{Adds}
use Rattle.f77_flow.proofs.Followers.{followers}

pub is_next : (u : List Stmt) (k : ℕ) (all js : List ℕ) → Adds u (follow u (At k)) [] all → js ≡ n.once all → IsNext u k js
is_next u k all js a e = record { all = a.added; begin = a.begin; once = e ∙ ap n.once a.is }

pub next_more : (u : List Stmt) (k : ℕ) (next : List (List ℕ)) (js : List ℕ) → length next ≡ k → ((i : ℕ) (is : List ℕ) → slice_get next i ≡ Some is → IsNext u i is) → IsNext u k js → (i : ℕ) (is : List ℕ) → slice_get (next ++ js ∷ []) i ≡ Some is → IsNext u i is
next_more u k next js long before here i is found =
    let read : get_or (next ++ js ∷ []) i is ≡ is = get_or_from_slice_get (next ++ js ∷ []) i is is found in
    let within : i < length (next ++ js ∷ []) = slice_get_within (next ++ js ∷ []) i is found in
    ⊎_elim
    (λ (e : i ≡ length next). subst (λ x. IsNext u x is) (sym (e ∙ long)) (subst (IsNext u k) (sym (get_or-append_seam next js [] is) ∙ (ap (λ x. get_or (next ++ js ∷ []) x is) (sym e) ∙ read)) here))
    (λ (ne : i ≡ length next → ⊥). let small : i < length next = omega (arith, within, length-append next (js ∷ [])) in
    before i is (slice_get-get_or next i is small ∙ ap Some (sym (get_or-append next (js ∷ []) is i small) ∙ read)))
    (cases_eq i (length next))

pub longer : (k : ℕ) (next : List (List ℕ)) (js : List ℕ) → length next ≡ k → length (next ++ js ∷ []) ≡ k + 1
longer k next js e = omega (arith, e, length-append next (js ∷ []))

pub all_within : (u : List Stmt) (ps : List Point) (all : List ℕ) → Adds u ps [] all → All (λ j. j ≤ length u) all
all_within u ps all a = subst (All (λ j. j ≤ length u)) (sym a.is) a.within

pub fits : (n m : ℕ) (all : List ℕ) → All (λ j. j ≤ n) all → m ≡ n + 1 → All (λ j. j < m) all
fits n m all h e = λ k d below. omega (arith, h k d below, e)

pub fresh : (k : ℕ) (marks : List ℕ) → All (λ mark. mark ≤ k) marks → All (λ mark. mark < k + 1) marks
fresh k marks h = λ i d below. omega (arith, h i d below)

pub next_each : (u : List Stmt) (next : List (List ℕ)) → length next ≡ length u → ((k : ℕ) (js : List ℕ) → slice_get next k ≡ Some js → IsNext u k js) → n.IsNextOfEach u next
next_each u next long each = record { long = long; each = each; followers = λ k js stands. followers u k js (each k js stands) }

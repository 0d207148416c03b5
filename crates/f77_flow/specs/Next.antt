-- The statements that may begin after a statement, and the loops of a unit.
use Rattle.std.specs.Prelude.{◌≡◌, ℕ, List, [], ◌∷◌, ◌++◌, Some, map, slice_get, length, nat_eq, IsTrue, ◌↔◌, if◌then◌else◌}
use Rattle.std.specs.List.{range_with_len, filter, fold, list_any}
use Rattle.f77_tree.specs.declared.unit.Stmt.{Stmt}
use Rattle.f77_flow.specs.declared.loops.Loop.{Loop}
use Rattle.f77_flow.specs.Labels.{last_of, has_range}
use Rattle.f77_flow.specs.Graph.{Point, At, follow}

-- what a statement that begins lies behind: tests, advances, and the statement of a logical IF
abbrev pub IsBetween : Point → Type 0
IsBetween (At k) = ⊥
IsBetween _ = Unit {0}

mutual
  -- the statements that may begin from a point on, when what lies between is passed through
  pub data Begin (u : List Stmt) : Point → List ℕ → Type 0 where
    at : {p : Point} {js : List ℕ} (k : ℕ) → p ≡ At k → js ≡ k ∷ [] → Begin u p js
    between : {p : Point} {js : List ℕ} → IsBetween p → EachBegins u (follow u p) js → Begin u p js

  -- those from each of several points on, in their order
  pub data EachBegins (u : List Stmt) : List Point → List ℕ → Type 0 where
    done : {ps : List Point} {js : List ℕ} → ps ≡ [] → js ≡ [] → EachBegins u ps js
    more : {ps qs : List Point} {js is ks : List ℕ} {p : Point} → ps ≡ p ∷ qs → Begin u p is → EachBegins u qs ks → js ≡ is ++ ks → EachBegins u ps js

-- from this point on a run comes to the beginning of statement j, and no other statement begins before
pub data Leads (u : List Stmt) (j : ℕ) : Point → Type 0 where
  begins : {p : Point} → p ≡ At j → Leads u j p
  goes : {p q : Point} (way : ℕ) → IsBetween p → slice_get (follow u p) way ≡ Some q → Leads u j q → Leads u j p

-- statement j may begin after statement k
pub record MayFollow (u : List Stmt) (k j : ℕ) : Type 0 where
  pub point : Point
  pub way : ℕ
  pub follows : slice_get (follow u (At k)) way ≡ Some point
  pub leads : Leads u j point

-- a number is added behind others that don't have it
abbrev pub add_once : List ℕ → ℕ → List ℕ
add_once js j = if list_any (nat_eq j) js then js else js ++ j ∷ []

-- each number where it stands first
abbrev pub once : List ℕ → List ℕ
once = fold add_once []

-- the statements that may begin after statement k
pub record IsNext (u : List Stmt) (k : ℕ) (js : List ℕ) : Type 0 where
  pub all : List ℕ
  pub begin : EachBegins u (follow u (At k)) all
  pub once : js ≡ once all

-- the list has exactly the statements that may begin after statement k
abbrev pub HasFollowers : List Stmt → ℕ → List ℕ → Type 0
HasFollowers u k js = (j : ℕ) → IsTrue (list_any (nat_eq j) js) ↔ MayFollow u k j

pub record IsNextOfEach (u : List Stmt) (next : List (List ℕ)) : Type 0 where
  pub long : length next ≡ length u
  pub each : (k : ℕ) (js : List ℕ) → slice_get next k ≡ Some js → IsNext u k js
  pub followers : (k : ℕ) (js : List ℕ) → slice_get next k ≡ Some js → HasFollowers u k js

abbrev pub loop_at : List Stmt → ℕ → Loop
loop_at u d = record { head = d; last = last_of u d }

-- the loops in the order of their DO statements
abbrev pub loops : List Stmt → List Loop
loops u = map (loop_at u) (filter (has_range u) (range_with_len 0 (length u)))

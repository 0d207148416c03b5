-- Lists of statements that grow, and the marks that tell what is in a list.
use Rattle.std.specs.Prelude.{◌≡◌, ℕ, ◌<◌, ◌≤◌, List, ◌++◌, length, slice_index, nat_eq}
use Rattle.std.specs.List.{All, list_any}
use Rattle.f77_tree.specs.declared.unit.Stmt.{Stmt}
use Rattle.f77_flow.specs.Graph.{Point}
use Rattle.f77_flow.specs.Next.{EachBegins}

-- what begins from these points on was added
pub record Adds (u : List Stmt) (ps : List Point) (old new : List ℕ) : Type 0 where
  pub added : List ℕ
  pub begin : EachBegins u ps added
  pub within : All (λ j. j ≤ length u) added
  pub is : new ≡ old ++ added

-- the marks that are the stamp are those of the numbers in the list; there is none above it
pub record AreMarks (marks : List ℕ) (stamp : ℕ) (js : List ℕ) : Type 0 where
  pub each : (j : ℕ) → j < length marks → list_any (nat_eq j) js ≡ nat_eq (slice_index marks j) stamp
  pub most : (j : ℕ) → j < length marks → slice_index marks j ≤ stamp

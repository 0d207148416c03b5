-- Labels of jumps that stand nowhere, and labels that stood before.
use Rattle.std.specs.Prelude.{◌≡◌, ◌≢◌, ℕ, ◌<◌, ◌≤◌, Bool, List, Some, slice_get, length}
use Rattle.std.specs.Option.{is_some}
use Rattle.std.specs.Ordering.{nat_cmp}
use Rattle.std.specs.BTreeMap as tree
use Rattle.f77_tree.specs.declared.unit.Stmt.{Stmt}
use Rattle.f77_flow.specs.Labels.{target}
use Rattle.check_jumps.specs.declared.labels.Seen.{Seen}

-- one of the first m labels stands on no executable statement
pub record LeadsNowhere (u : List Stmt) (labels : List ℕ) (m : ℕ) : Type 0 where
  pub place : ℕ
  pub label : ℕ
  pub early : place < m
  pub among : slice_get labels place ≡ Some label
  pub nowhere : length u ≤ target u label

-- the label stands on one of the first m statements
pub record Stands (u : List Stmt) (m label : ℕ) : Type 0 where
  pub place : ℕ
  pub statement : Stmt
  pub early : place < m
  pub stands : slice_get u place ≡ Some statement
  pub same : statement.label ≡ label
  pub labelled : label ≢ 0

-- a label of the statements that were seen
abbrev pub has : Seen → ℕ → Bool
has seen label = is_some (tree.get nat_cmp seen.labels label)

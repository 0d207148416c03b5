-- Tables of numbers, and the numbers of labels, as far as a pass from the last statement to the first has come.
use Rattle.std.specs.Prelude.{◌≡◌, ℕ, ◌<◌, ◌≤◌, Bool, List, length, slice_index, slice_index_or}
use Rattle.std.specs.Option.{unwrap_or}
use Rattle.std.specs.Ordering.{nat_cmp}
use Rattle.std.specs.BTreeMap as tree
use Rattle.f77_tree.specs.declared.unit.Stmt.{Stmt}
use Rattle.f77_flow.specs.declared.labels.Labels.{Labels}
use Rattle.f77_flow.specs.declared.blocks.Branches.{Branches}
use Rattle.f77_flow.specs.declared.loops.Ends.{Ends}
use Rattle.f77_flow.specs.Labels.{first_with, target, last_of}
use Rattle.f77_flow.specs.Blocks as b
use Rattle.f77_flow.specs.Graph.{ending_in, ending, around}

-- from a place on, the table has at k what f gives
pub record IsTableFrom (f : ℕ → ℕ) (n from : ℕ) (table : List ℕ) : Type 0 where
  pub long : length table ≡ n
  pub each : (k : ℕ) → from ≤ k → k < n → slice_index table k ≡ f k

-- the table of the first n numbers that f gives
abbrev pub IsTable : (ℕ → ℕ) → ℕ → List ℕ → Type 0
IsTable f n table = IsTableFrom f n 0 table

-- the statement that a label means
abbrev pub number_of : Labels → ℕ → ℕ
number_of labels label = unwrap_or (tree.get nat_cmp labels.numbers label) labels.none

-- each label means the first of these statements, numbered from k, that meets its test
pub record Mean (test : ℕ → Stmt → Bool) (labels : Labels) (k : ℕ) (ss : List Stmt) : Type 0 where
  pub each : (label : ℕ) → number_of labels label ≡ first_with (test label) k ss

pub record AreBranches (u : List Stmt) (branches : Branches) : Type 0 where
  pub first : branches.first ≡ b.first u
  pub below : IsTable (b.below u) (length u) branches.below
  pub otherwise : IsTable (b.otherwise u) (length u) branches.otherwise
  pub ends : IsTable (b.end_if u) (length u) branches.ends
  pub arms : IsTable (b.arm_end u) (length u) branches.arms

-- the innermost DO of the first m statements that ends at k
abbrev pub inner_in : List Stmt → ℕ → ℕ → ℕ
inner_in u k m = slice_index_or (ending_in u k m) 0 (length u)

-- the innermost DO that ends at k
abbrev pub innermost : List Stmt → ℕ → ℕ
innermost u k = slice_index_or (ending u k) 0 (length u)

-- the next DO around the one at d that ends where it does
abbrev pub outer : List Stmt → ℕ → ℕ
outer u d = slice_index_or (around u d) 0 (length u)

-- what is known when the DOs of the first m statements were seen
pub record AreEnds (u : List Stmt) (m : ℕ) (ends : Ends) : Type 0 where
  pub innermost : IsTable (λ k. inner_in u k m) (length u) ends.innermost
  pub outer : IsTable (outer u) m ends.outer

-- the tables are those of these statements
pub record IsControl (u : List Stmt) (targets : Labels) (branches : Branches) (lasts : List ℕ) (ends : Ends) : Type 0 where
  pub jumps : (label : ℕ) → number_of targets label ≡ target u label
  pub parts : AreBranches u branches
  pub ranges : IsTable (last_of u) (length u) lasts
  pub loops : AreEnds u (length u) ends

-- For each node the nodes that read it.
use Rattle.std.specs.Prelude.{◌≡◌, ℕ, ◌+◌, ◌<◌, List, [], ◌∷◌, All, length, sum_by, slice_index_or}
use Rattle.std.proofs.Common.{suc}
use Rattle.fix_solver.specs.Worklists.{waits}
use Rattle.fix_solver.specs.Systems.{edge_sum}

-- over all lists, from number k on, f of the list's number for each element
abbrev pub weigh : {D : Type 0} → (D → List ℕ) → (ℕ → ℕ) → ℕ → List D → ℕ
weigh items f k [] = 0
weigh items f k (d ∷ ds) = sum_by (λ _. f k) (items d) + weigh items f (suc k) ds

-- the readers among the first nodes
pub record IsReaders {D : Type 0} (items : D → List ℕ) (sources : ℕ → List ℕ) (count upto : ℕ) (readers : List D) : Type 0 where
  pub whole : length readers ≡ count
  pub reads : (n m : ℕ) (d : D) → n < upto → m < count → waits (items (slice_index_or readers m d)) n ≡ waits (sources n) m
  pub in_range : (m : ℕ) (d : D) → m < count → All (λ n. n < upto) (items (slice_index_or readers m d))
  pub weighed : (f : ℕ → ℕ) → weigh items f 0 readers ≡ edge_sum f upto sources

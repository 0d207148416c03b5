-- Nodes that wait, in their order, none of them twice.
use Rattle.std.specs.Prelude.{◌≡◌, ℕ, ◌<◌, Bool, List, [], ◌∷◌, ◌++◌, All, length, nat_eq, slice_index_or, if◌then◌else◌}
use Rattle.std.specs.List.{list_any, IsDistinct}

-- whether the node waits
abbrev pub waits : List ℕ → ℕ → Bool
waits queue n = list_any (nat_eq n) queue

-- the queue, with the node at its end unless it waits
abbrev pub with_node : List ℕ → ℕ → List ℕ
with_node queue n = if waits queue n then queue else queue ++ n ∷ []

-- the marks tell which nodes wait
pub record IsWorklist (marks : List Bool) (queue : List ℕ) : Type 0 where
  pub marked : (n : ℕ) (d : Bool) → n < length marks → slice_index_or marks n d ≡ waits queue n
  pub once : IsDistinct nat_eq queue
  pub in_range : All (λ n. n < length marks) queue

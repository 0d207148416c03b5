-- What a list of readers has after a node was added to the lists of some sources.
use Rattle.std.specs.Prelude.{◌≡◌, ℕ, ◌+◌, ◌<◌, ◌&&◌, ◌||◌, List, All, length, sum_by, nat_eq, slice_index_or}
use Rattle.fix_solver.specs.Worklists.{waits}
use Rattle.fix_solver.specs.Readers.{weigh}

pub record AddsReader {D : Type 0} (items : D → List ℕ) (node : ℕ) (sources : List ℕ) (old new : List D) : Type 0 where
  pub whole : length new ≡ length old
  pub grew : (m n : ℕ) (d : D) → m < length old → waits (items (slice_index_or new m d)) n ≡ (waits (items (slice_index_or old m d)) n || (nat_eq n node && waits sources m))
  pub in_range : (m bound : ℕ) (d : D) → m < length old → node < bound → All (λ n. n < bound) (items (slice_index_or old m d)) → All (λ n. n < bound) (items (slice_index_or new m d))
  pub weighed : (f : ℕ → ℕ) → weigh items f 0 new ≡ weigh items f 0 old + sum_by f sources

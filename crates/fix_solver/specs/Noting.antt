-- The notes of the evaluations.
use Rattle.std.specs.Prelude.{◌≡◌, ℕ, ◌<◌, ◌≤◌, List, ◌++◌, All, length, map}

-- the new notes are of evaluations of some nodes, one after another, and no more than the bound
pub record NotesEvaluations {N : Type 0} (note : ℕ → N) (count bound : ℕ) (old new : List N) : Type 0 where
  pub order : List ℕ
  pub notes : new ≡ old ++ map note order
  pub nodes : All (λ n. n < count) order
  pub few : length order ≤ bound

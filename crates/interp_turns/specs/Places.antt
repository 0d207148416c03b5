-- What the place of an activation stands for.
use Rattle.std.specs.Prelude.{◌≡◌, ℕ, ◌<◌, List, length, pos, slice_index_or, ⊤}
use Rattle.f77_flow.specs.Graph as graph
use Rattle.f77_semantics.specs.Statements as running
use Rattle.interp_turns.specs.declared.here.Point.{Point}
use Rattle.interp_turns.specs.declared.here.Point.TheVariants.{At, Inside, Test, Advance}
use Rattle.interp_turns.specs.declared.here.Loop.{Loop}
use Rattle.interp_turns.specs.declared.here.Here.{Here}

abbrev pub point_of : Point → graph.Point
point_of (At k) = graph.At k
point_of (Inside k) = graph.Inside k
point_of (Test d) = graph.Test d
point_of (Advance d) = graph.Advance d

abbrev pub loop_of : Loop → running.Loop
loop_of l = record { count = l.count; step = l.step }

-- A DO that hasn't begun has a count of 0.
abbrev pub loop_at : List Loop → ℕ → running.Loop
loop_at loops k = loop_of (slice_index_or loops k (record { count = 0; step = pos 1 }))

abbrev pub here_of : Here → running.Here
here_of h = record { point = point_of h.point; loops = loop_at h.loops.items }

-- A point in a unit of n statements. What no statement stands at is `At` alone.
abbrev pub IsWithin : ℕ → Point → Type 0
IsWithin n (At k) = ⊤
IsWithin n (Inside k) = k < n
IsWithin n (Test d) = d < n
IsWithin n (Advance d) = d < n

-- a place in a unit of n statements, with a loop for each
pub record Stands (n : ℕ) (h : Here) : Type 0 where
  pub loops : length h.loops.items ≡ n
  pub within : IsWithin n h.point

use Rattle.std.proofs.Common.{◌≡◌, ℕ, ◌+◌, ◌-◌, length}
use Rattle.interp_steps.specs.Frames.{shape_at}
use Rattle.interp_calls.proofs.shapes.make_room.Given as goal

abbrev pub invariant-room : goal.invariant-room
invariant-room l = (k : ℕ) → shape_at l.shapes.items k ≡ shape_at l.initial.shapes.items k

abbrev pub decreases-room : goal.decreases-room
decreases-room l = (l.dummy + 1) - length l.shapes.items

use Rattle.std.proofs.Common.{◌≡◌, drop, fold}
use Rattle.call_cycles.specs.Searching.{turn}
use Rattle.call_cycles.proofs.callers.turn_row.Given as goal

abbrev pub invariant-loop-e : goal.invariant-loop-e
invariant-loop-e l = fold (turn l.place) l.callers.items (drop l.e-index l.e-items) ≡ fold (turn l.place) l.initial.callers.items l.e-items

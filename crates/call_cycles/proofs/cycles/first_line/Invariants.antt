use Rattle.std.proofs.Common.{◌≡◌, drop}
use Rattle.call_cycles.specs.Searching.{first_line}
use Rattle.call_cycles.proofs.cycles.first_line.Given as goal

abbrev pub invariant-loop-e : goal.invariant-loop-e
invariant-loop-e l = first_line l.seen.items (drop l.e-index l.e-items) ≡ first_line l.seen.items l.e-items

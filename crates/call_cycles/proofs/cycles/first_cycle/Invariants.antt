use Rattle.std.proofs.Common.{◌≡◌, drop}
use Rattle.call_cycles.specs.Searching.{first_cycle}
use Rattle.call_cycles.proofs.cycles.first_cycle.Given as goal

abbrev pub invariant-loop-place : goal.invariant-loop-place
invariant-loop-place l = first_cycle l.callers l.ranks.items l.place (drop l.place l.rows) ≡ first_cycle l.callers l.ranks.items 0 l.rows

use Rattle.std.proofs.Common.{◌≡◌, drop}
use Rattle.call_cycles.specs.Searching.{turn_from, callers}
use Rattle.call_cycles.proofs.callers.callers_of.Given as goal

abbrev pub invariant-loop-place : goal.invariant-loop-place
invariant-loop-place l = turn_from l.place l.callers.items (drop l.place l.rows) ≡ callers l.rows

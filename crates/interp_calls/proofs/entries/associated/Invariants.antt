use Rattle.std.proofs.Common.{◌≡◌, ◌++◌, drop, map}
use Rattle.interp_steps.specs.Frames.{interval_of}
use Rattle.interp_calls.specs.Entries.{associated_by}
use Rattle.interp_calls.proofs.entries.associated.Given as goal

abbrev pub invariant-loop-j : goal.invariant-loop-j
invariant-loop-j l = map interval_of l.all.items ++ associated_by l.arrays l.j (map interval_of (drop l.j l.actuals)) ≡ associated_by l.arrays 0 (map interval_of l.actuals)

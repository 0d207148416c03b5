use Rattle.std.proofs.Common.{◌≤◌, length}
use Rattle.check_jumps.specs.Intervals.{AreLeastEnds}
use Rattle.check_jumps.proofs.intervals.least_ends.Given as goal

abbrev pub invariant-place : goal.invariant-place
invariant-place l = record {
  within : l.j ≤ length l.ends;
  least : AreLeastEnds l.ends l.firsts l.j l.least;
}

abbrev pub decreases-place : goal.decreases-place
decreases-place l = l.j

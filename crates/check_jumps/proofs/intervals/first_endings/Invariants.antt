use Rattle.std.proofs.Common.{◌≤◌, length}
use Rattle.check_jumps.specs.Intervals.{AreFirstEndings}
use Rattle.check_jumps.proofs.intervals.first_endings.Given as goal

abbrev pub invariant-place : goal.invariant-place
invariant-place l = record {
  within : l.h ≤ length l.ends;
  firsts : AreFirstEndings l.ends l.h l.firsts;
}

abbrev pub decreases-place : goal.decreases-place
decreases-place l = l.h

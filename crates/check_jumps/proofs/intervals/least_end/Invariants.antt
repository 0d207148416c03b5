use Rattle.std.proofs.Common.{ℕ, ◌-◌, ◌≤◌, length, slice_index}
use Rattle.check_jumps.specs.Intervals.{Holds}
use Rattle.check_jumps.proofs.intervals.least_end.Given as goal

abbrev pub invariant-chain : goal.invariant-chain
invariant-chain l = record {
  most : l.j ≤ l.e;
  below : (h : ℕ) → Holds l.ends h l.j → l.e ≤ slice_index l.ends h;
}

abbrev pub decreases-chain : goal.decreases-chain
decreases-chain l = length l.ends - l.e

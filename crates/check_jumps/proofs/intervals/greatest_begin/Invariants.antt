use Rattle.std.proofs.Common.{ℕ, ◌<◌, ◌≤◌}
use Rattle.check_jumps.specs.Intervals.{Holds}
use Rattle.check_jumps.proofs.intervals.greatest_begin.Given as goal

abbrev pub invariant-chain : goal.invariant-chain
invariant-chain l = record {
  most : l.m ≤ l.j;
  above : (h : ℕ) → Holds l.ends h l.j → h < l.m;
}

abbrev pub decreases-chain : goal.decreases-chain
decreases-chain l = l.m

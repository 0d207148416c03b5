use Rattle.check_jumps.specs.Intervals.{AreGreatestBegins}
use Rattle.check_jumps.proofs.intervals.greatest_begins.Given as goal

abbrev pub invariant-loop-j : goal.invariant-loop-j
invariant-loop-j l = AreGreatestBegins l.ends l.j l.begins

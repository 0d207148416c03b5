use Rattle.std.proofs.Common.{◌≡◌, drop, false}
use Rattle.prog_check.specs.Scans.{later_main}
use Rattle.prog_check.proofs.scans.later_main.Given as goal

abbrev pub invariant-loop-place : goal.invariant-loop-place
invariant-loop-place l = later_main l.seen l.place (drop l.place l.units) ≡ later_main false 0 l.units

use Rattle.std.proofs.Common.{◌≡◌, ◌≤◌, drop}
use Rattle.prog_check.specs.Limits as limits
use Rattle.prog_check.specs.Scans as scans
use Rattle.prog_check.proofs.limits.passing.Given as goal

abbrev pub invariant-loop-place : goal.invariant-loop-place
invariant-loop-place l = record {
  small : l.sum ≤ limits.limit_of l.measure;
  left : scans.passing (limits.measured l.measure) (limits.limit_of l.measure) l.sum l.place (drop l.place l.units) ≡ scans.passing (limits.measured l.measure) (limits.limit_of l.measure) 0 0 l.units;
}

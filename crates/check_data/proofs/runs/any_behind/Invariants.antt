use Rattle.std.proofs.Common.{◌≡◌, drop}
use Rattle.check_data.specs.DataRuns.{types}
use Rattle.check_data.proofs.runs.any_behind.Given as goal

-- The first runs behind are empty.
abbrev pub invariant-loop-i : goal.invariant-loop-i
invariant-loop-i l = types (drop l.i l.runs) ≡ types (drop l.k l.runs)

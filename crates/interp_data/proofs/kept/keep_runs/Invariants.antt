use Rattle.std.proofs.Common.{◌≡◌, drop, fold}
use Rattle.f77_values.specs.Tables.{with_name}
use Rattle.interp_data.specs.Cells.{in_runs}
use Rattle.interp_data.proofs.kept.keep_runs.Given as goal

abbrev pub invariant-loop-run : goal.invariant-loop-run
invariant-loop-run l = fold with_name l.found (in_runs (drop l.run-index l.run-items)) ≡ fold with_name l.initial.found (in_runs l.run-items)

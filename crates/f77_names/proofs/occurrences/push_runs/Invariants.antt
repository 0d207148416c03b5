use Rattle.std.proofs.Common.{◌≡◌, ◌++◌, drop, flat_map}
use Rattle.f77_names.specs.Occurrences.{in_run}
use Rattle.f77_names.proofs.occurrences.push_runs.Given as goal

abbrev pub invariant-loop-run : goal.invariant-loop-run
invariant-loop-run l = l.found ++ flat_map in_run (drop l.run-index l.run-items) ≡ l.initial.found ++ flat_map in_run l.run-items

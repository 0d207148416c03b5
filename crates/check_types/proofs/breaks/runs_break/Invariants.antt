use Rattle.std.proofs.Common.{◌≡◌, drop}
use Rattle.std.specs.List.{list_any}
use Rattle.check_types.specs.Breaks.{run_breaks}
use Rattle.check_types.proofs.breaks.runs_break.Given as goal

abbrev pub invariant-loop-run : goal.invariant-loop-run
invariant-loop-run l = list_any (run_breaks l.facts l.constants l.rule) (drop l.run-index l.run-items) ≡ list_any (run_breaks l.facts l.constants l.rule) l.run-items

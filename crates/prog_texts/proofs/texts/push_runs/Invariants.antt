use Rattle.std.proofs.Common.{◌≡◌, ◌++◌, drop, flat_map}
use Rattle.prog_texts.specs.Mentions.{in_run}
use Rattle.prog_texts.proofs.texts.push_runs.Given as goal

abbrev pub invariant-loop-run : goal.invariant-loop-run
invariant-loop-run l = l.found ++ flat_map (in_run l.facts l.line) (drop l.run-index l.run-items) ≡ l.initial.found ++ flat_map (in_run l.facts l.line) l.run-items

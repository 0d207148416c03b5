use Rattle.std.proofs.Common.{◌≡◌, ◌*◌, ◌≤◌, ◌++◌, drop, length}
use Rattle.check_data.specs.DataRuns as m
use Rattle.check_data.proofs.runs.constant_runs.Given as goal

-- the runs so far, with those still to come
abbrev pub invariant-loop-constant : goal.invariant-loop-constant
invariant-loop-constant l = record {
  runs : l.runs ++ (m.constant_runs l.facts l.constants (drop l.constant-index l.constant-items)).runs ≡ (m.constant_runs l.facts l.constants l.constant-items).runs;
  all : (m.constant_runs l.facts l.constants (drop l.constant-index l.constant-items)).all ≡ (m.constant_runs l.facts l.constants l.constant-items).all;
  short : length (m.types l.runs) ≤ l.constant-index * 18446744073709551615;
}

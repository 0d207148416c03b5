use Rattle.std.proofs.Common.{◌≤◌, length, drop}
use Rattle.f77_flow.specs.Labels.{is_target}
use Rattle.f77_flow.specs.Tables.{Mean}
use Rattle.f77_flow.proofs.labels.targets_of.Given as goal

abbrev pub invariant-place : goal.invariant-place
invariant-place l = record {
  within : l.k ≤ length l.statements;
  mean : Mean is_target l.targets l.k (drop l.k l.statements);
}

abbrev pub decreases-place : goal.decreases-place
decreases-place l = l.k

use Rattle.std.proofs.Common.{◌≡◌, ◌≤◌, length, drop}
use Rattle.f77_flow.specs.Labels.{has_label, last_of}
use Rattle.f77_flow.specs.Tables.{Mean, IsTableFrom}
use Rattle.f77_flow.proofs.labels.lasts_of.Given as goal

abbrev pub invariant-place : goal.invariant-place
invariant-place l = record {
  within : l.k ≤ length l.statements;
  none : l.labels.none ≡ length l.statements;
  mean : Mean has_label l.labels l.k (drop l.k l.statements);
  lasts : IsTableFrom (last_of l.statements) (length l.statements) l.k l.lasts;
}

abbrev pub decreases-place : goal.decreases-place
decreases-place l = l.k

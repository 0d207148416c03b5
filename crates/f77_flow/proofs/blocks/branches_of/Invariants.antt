use Rattle.std.proofs.Common.{◌≤◌, length, drop}
use Rattle.f77_flow.specs.Blocks as b
use Rattle.f77_flow.specs.Progress.{HasSeen}
use Rattle.f77_flow.specs.Tables.{IsTableFrom}
use Rattle.f77_flow.proofs.blocks.branches_of.Given as goal

abbrev pub invariant-place : goal.invariant-place
invariant-place l = record {
  within : l.k ≤ length l.statements;
  seen : HasSeen l.seen l.k (drop l.k l.statements);
  below : IsTableFrom (b.below l.statements) (length l.statements) l.k l.below;
  otherwise : IsTableFrom (b.otherwise l.statements) (length l.statements) l.k l.otherwise;
  ends : IsTableFrom (b.end_if l.statements) (length l.statements) l.k l.ends;
  arms : IsTableFrom (b.arm_end l.statements) (length l.statements) l.k l.arms;
}

abbrev pub decreases-place : goal.decreases-place
decreases-place l = l.k

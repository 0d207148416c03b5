-- The faults of a unit in its labels, jumps, DOs and block IFs (ANSI X3.9-1978, 3.4, 11.1 to 11.10).
use Rattle.std.specs.Prelude.{List}
use Rattle.f77_tree.specs.declared.unit.Stmt.{Stmt}
use Rattle.fault_marks.specs.declared.marks.Mark.{Mark}
use Rattle.fault_marks.specs.Places.{ShowsAt}
use Rattle.f77_flow.specs.Checks.{JumpsNowhere, RepeatsLabel, JumpsAstray, EndsLoopBadly, IsMisnested}

-- A statement shows one of them: a jump to a label that stands on no executable statement (14), a label that stands twice (15), a
-- jump into an arm or a range, or to an ELSE (16), a last statement that ends no DO (17), DOs and block IFs that don't nest (18).
pub data JumpFaults (u : List Stmt) (mark : Mark) : Type 0 where
  nowhere : ShowsAt u (JumpsNowhere u) 14 0 mark → JumpFaults u mark
  repeated : ShowsAt u (RepeatsLabel u) 15 0 mark → JumpFaults u mark
  astray : ShowsAt u (JumpsAstray u) 16 0 mark → JumpFaults u mark
  bad_end : ShowsAt u (EndsLoopBadly u) 17 0 mark → JumpFaults u mark
  misnested : ShowsAt u (IsMisnested u) 18 0 mark → JumpFaults u mark

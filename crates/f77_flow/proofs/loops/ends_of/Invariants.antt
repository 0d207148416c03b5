use Rattle.std.proofs.Common.{List, length}
use Rattle.f77_tree.specs.declared.unit.Stmt.{Stmt}
use Rattle.f77_flow.specs.Labels.{last_of}
use Rattle.f77_flow.specs.Tables.{IsTable, AreEnds}
use Rattle.f77_flow.proofs.loops.ends_of.Given as goal

abbrev pub invariant-loop-d : goal.invariant-loop-d
invariant-loop-d l = (u : List Stmt) → IsTable (last_of u) (length u) l.lasts → AreEnds u l.d l.ends

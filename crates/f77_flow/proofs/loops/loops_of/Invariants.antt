use Rattle.std.proofs.Common.{◌≡◌, List, length, map}
use Rattle.std.specs.List.{range_with_len, filter}
use Rattle.f77_tree.specs.declared.unit.Stmt.{Stmt}
use Rattle.f77_flow.specs.Labels.{last_of, has_range}
use Rattle.f77_flow.specs.Next.{loop_at}
use Rattle.f77_flow.specs.Tables.{IsTable}
use Rattle.f77_flow.proofs.loops.loops_of.Given as goal

abbrev pub invariant-loop-d : goal.invariant-loop-d
invariant-loop-d l = (u : List Stmt) → IsTable (last_of u) (length u) l.lasts → l.loops ≡ map (loop_at u) (filter (has_range u) (range_with_len 0 l.d))

use Rattle.std.proofs.Common.{◌≤◌, ◌++◌, length}
use Rattle.f77_expr.specs.Depth.{deepest}
use Rattle.form_parts.specs.Listed.{Chained}
use Rattle.form_parts.specs.Only.{Sole, Never, OnlyChained}
use Rattle.form_parts.proofs.part_lists.chained.Given as goal

abbrev pub invariant-entry : goal.invariant-entry
invariant-entry g l = record {
  shallow : deepest l.rest ≤ 100;
  best : (others : _) → Sole (Chained g.T.Entry.reads) l.rest others → OnlyChained g.T.Entry.reads l.fn.first l.tokens (l.all ++ others);
  fails : Never (Chained g.T.Entry.reads) l.rest → Never (Chained g.T.Entry.reads) l.tokens;
}

abbrev pub decreases-entry : goal.decreases-entry
decreases-entry g l = length l.rest

use Rattle.std.proofs.Common.{◌≤◌, ◌++◌, length}
use Rattle.f77_expr.specs.Depth.{deepest}
use Rattle.f77_expr.specs.Kinds.{Tokens}
use Rattle.form_parts.specs.Only.{OnlyTail, OnlyListed}
use Rattle.form_parts.proofs.part_lists.listed.Given as goal

abbrev pub invariant-part : goal.invariant-part
invariant-part g l = record {
  shallow : deepest l.rest ≤ 100;
  best : (others : _) (s : Tokens) → OnlyTail g.T.Part.reads g.T.Part.slash l.rest others s → OnlyListed g.T.Part.reads g.T.Part.slash l.tokens (l.all ++ others) s;
}

abbrev pub decreases-part : goal.decreases-part
decreases-part g l = length l.rest

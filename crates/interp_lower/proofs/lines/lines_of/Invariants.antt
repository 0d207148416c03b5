use Rattle.std.proofs.Common.{List, ◌++◌, drop}
use Rattle.f77_semantics.specs.Resolve.{statements_from}
use Rattle.interp_lower.specs.declared.piece.Line.{Line}
use Rattle.interp_data.specs.Meant.{meant}
use Rattle.interp_lower.specs.Lines.{AreLines}
use Rattle.interp_lower.proofs.lines.lines_of.Given as goal

-- Whatever lines are the statements from k on, behind those so far they are all.
abbrev pub invariant-loop-k : goal.invariant-loop-k
invariant-loop-k l = (rest : List Line)
    → AreLines rest (statements_from (meant l.names) l.names.facts l.main l.statements l.k l.site (drop l.k l.statements))
    → AreLines (l.all ++ rest) (statements_from (meant l.names) l.names.facts l.main l.statements 0 1 l.statements)

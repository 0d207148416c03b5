use Rattle.std.proofs.Common.{length}
use Rattle.f77_expr.proofs.Gathering.{Gathered}
use Rattle.f77_expr.proofs.lexer.pieces.Given as goal

abbrev pub invariant-piece : goal.invariant-piece
invariant-piece l = Gathered l.text l.rest l.seen.tokens l.seen.unclosed l.seen.large l.seen.strange

abbrev pub decreases-piece : goal.decreases-piece
decreases-piece l = length l.rest

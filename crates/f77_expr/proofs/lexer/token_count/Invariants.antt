use Rattle.std.proofs.Common.{length}
use Rattle.f77_expr.proofs.Gathering.{Counted}
use Rattle.f77_expr.proofs.lexer.token_count.Given as goal

abbrev pub invariant-piece : goal.invariant-piece
invariant-piece l = Counted l.text l.rest l.count

abbrev pub decreases-piece : goal.decreases-piece
decreases-piece l = length l.rest

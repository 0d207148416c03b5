use Rattle.std.proofs.Common.{sym}
use Rattle.f77_expr.proofs.Gathering.{counted_next, counted_end, emptied}
use Rattle.f77_expr.proofs.lexer.token_count.Goals as goal

pub piece-preserved : goal.piece-preserved
piece-preserved c = counted_next c.split_at.result.1.now c.piece.invariant c.front-length.ensures.begins c.split_at.ensures.back

pub returns : goal.returns
returns c = record { count = counted_end c.piece.invariant (emptied c.piece.rest.now (sym (c.piece-test.ensures {u = tt}))) }

use Rattle.std.proofs.Common.{sym}
use Rattle.f77_expr.proofs.Gathering.{gathered_start, gathered_next, gathered_end, emptied}
use Rattle.f77_expr.proofs.lexer.pieces.Goals as goal

pub piece-init : goal.piece-init
piece-init c = rw c.new.ensures (gathered_start c.args.text.now)

pub piece-preserved : goal.piece-preserved
piece-preserved c =
    let seen = c.in_ok-seen.seen in
    gathered_next c.split_at.result.0.now c.split_at.result.1.now seen.tokens seen.unclosed seen.large seen.strange c.piece.invariant c.front-part.ensures.begins c.split_at.ensures.front c.split_at.ensures.back (c.in_ok-seen.ensures {u = tt})

pub returns : goal.returns
returns c = gathered_end c.piece.invariant (emptied c.piece.rest.now (sym (c.piece-test.ensures {u = tt})))

use Rattle.std.proofs.Common.{ap, ◌∙◌}
use Rattle.f77_expr.specs.Lexing.{Good}
use Rattle.f77_expr.proofs.Gathering.{stands_good, stands_large, stands_unclosed, stands_strange}
use Rattle.f77_expr.proofs.lexer.with_piece.Goals as goal

pub returns-in_ok-with_token-in-Good : goal.returns-in_ok-with_token-in-Good
returns-in_ok-with_token-in-Good c =
    rw (c.in-Good.is, c.in_ok-with_token-in-Good.ensures {u = tt})
    (λ before piece is stands. stands_good before c.args.seen.tokens piece c.in_ok-token_of-in-Good.field-0 (is.is ∙ ap Good (c.in_ok-token_of-in-Good.ensures {u = tt} is.token is.has)) stands)

pub returns-in-Large : goal.returns-in-Large
returns-in-Large c = rw c.in-Large.is (λ before piece is stands. stands_large before c.args.seen.tokens piece is stands)

pub returns-in-Unclosed : goal.returns-in-Unclosed
returns-in-Unclosed c = rw c.in-Unclosed.is (λ before piece is stands. stands_unclosed before c.args.seen.tokens piece is stands)

pub returns-in-Strange : goal.returns-in-Strange
returns-in-Strange c = rw c.in-Strange.is (λ before piece is stands. stands_strange before c.args.seen.tokens piece is stands)

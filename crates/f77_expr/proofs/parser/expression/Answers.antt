use Rattle.f77_expr.proofs.Public.{best_at}
use Rattle.f77_expr.proofs.parser.expression.Goals as goal

pub returns-in-Some-clause-longest : goal.returns-in-Some-clause-longest
returns-in-Some-clause-longest c =
    best_at c.args.tokens.now c.args.from (rw (c.in-Some.is, c.behind-rest.ensures) at c.in_ok-read.ensures)

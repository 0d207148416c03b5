use Rattle.f77_expr.proofs.Gathering.{lexes}
use Rattle.f77_expr.proofs.lexer.tokens.Goals as goal

pub returns-clause-tokens : goal.returns-clause-tokens
returns-clause-tokens c = lexes (c.in_ok-seen.ensures {u = tt}) c.if-seen.false c.if-seen-2.false c.if-seen-3.false

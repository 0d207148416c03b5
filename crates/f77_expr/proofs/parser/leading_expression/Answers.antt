use Rattle.f77_expr.proofs.Public.{best_longest, reads_suffix, suffix_shallow}
use Rattle.f77_expr.proofs.parser.leading_expression.Goals as goal

pub returns-clause-shallow : goal.returns-clause-shallow
returns-clause-shallow c = suffix_shallow (reads_suffix (rw c.in-Some.is at (c.in_ok-found.ensures {u = tt})).reads) c.requires

pub returns-clause-longest : goal.returns-clause-longest
returns-clause-longest c = best_longest (rw c.in-Some.is at (c.in_ok-found.ensures {u = tt}))

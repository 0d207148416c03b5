-- What is read takes tokens.
use Rattle.std.proofs.Common.{◌≡◌, suc, ◌<◌, ◌≤◌, List, length, ap, arith}
use Rattle.f77_tree.specs.declared.expr.Expr.{Expr}
use Rattle.f77_expr.specs.declared.token.Kind.{Kind}
use Rattle.f77_expr.specs.declared.token.Rule.{Rule}
use Rattle.f77_expr.specs.Kinds.{Tokens, IsNext}
use Rattle.f77_expr.specs.Grammar.{Reads, chain, asserted, denied, alone, compared, negated, kept, single, power, number, yes, no, name, applied, paren, Joins, stop, go, Lists, none, some, Items, last, more}

pub next_length : {ts rest : Tokens} {kind : Kind} → IsNext ts kind rest → length ts ≡ suc (length rest)
next_length n = ap length n.front

mutual
  pub reads_shorter : {rule : Rule} {ts s : Tokens} {x : Expr} → Reads rule ts x s → length s < length ts
  reads_shorter (chain g r j) = omega (arith, reads_shorter r, joins_shorter j)
  reads_shorter (asserted r) = reads_shorter r
  reads_shorter (denied n r e) = omega (arith, next_length n, reads_shorter r)
  reads_shorter (alone r) = reads_shorter r
  reads_shorter (compared r n o q e) = omega (arith, reads_shorter r, next_length n, reads_shorter q)
  reads_shorter (negated n r j) = omega (arith, next_length n, reads_shorter r, joins_shorter j)
  reads_shorter (kept n r j) = omega (arith, next_length n, reads_shorter r, joins_shorter j)
  reads_shorter (single r) = reads_shorter r
  reads_shorter (power r n o q e) = omega (arith, reads_shorter r, next_length n, reads_shorter q)
  reads_shorter (number n digits f e) = omega (arith, ap length f)
  reads_shorter (yes n e) = omega (arith, next_length n)
  reads_shorter (no n e) = omega (arith, next_length n)
  reads_shorter (name word f named e) = omega (arith, ap length f)
  reads_shorter (applied word f named n l e) = omega (arith, ap length f, next_length n, lists_shorter l)
  reads_shorter (paren n r m e) = omega (arith, next_length n, reads_shorter r, next_length m)

  pub joins_shorter : {rule : Rule} {a : Expr} {ts s : Tokens} {x : Expr} → Joins rule a ts x s → length s ≤ length ts
  joins_shorter (stop e f) = omega (arith, ap length f)
  joins_shorter (go n o r j) = omega (arith, next_length n, reads_shorter r, joins_shorter j)

  pub lists_shorter : {ts s : Tokens} {all : List Expr} → Lists ts all s → length s < length ts
  lists_shorter (none n e) = omega (arith, next_length n)
  lists_shorter (some i) = items_shorter i

  pub items_shorter : {ts s : Tokens} {all : List Expr} → Items ts all s → length s < length ts
  items_shorter (last r n e) = omega (arith, reads_shorter r, next_length n)
  items_shorter (more r n i e) = omega (arith, reads_shorter r, next_length n, items_shorter i)

use Rattle.std.proofs.Common.{◌++◌, ◌≤◌, ◌<◌, length, ◌+◌, ◌*◌, List}
use Rattle.f77_tree.specs.declared.expr.Expr.{Expr}
use Rattle.f77_expr.specs.Kinds.{Tokens}
use Rattle.f77_expr.specs.Best.{BestJoin, Powers, FirstItems, NoItems}
use Rattle.f77_expr.proofs.Ranks.{rank}
use Rattle.f77_expr.proofs.parser.+parser.Given as goal

abbrev pub decreases-read : goal.decreases-read
decreases-read l = 30 * length l.tokens.now + 2 * rank l.rule + 3

abbrev pub decreases-chain : goal.decreases-chain
decreases-chain l = 30 * length l.tokens.now + 2 * rank l.rule + 2

abbrev pub decreases-negation : goal.decreases-negation
decreases-negation l = 30 * length l.tokens.now + 12

abbrev pub decreases-relation : goal.decreases-relation
decreases-relation l = 30 * length l.tokens.now + 10

abbrev pub decreases-sum : goal.decreases-sum
decreases-sum l = 30 * length l.tokens.now + 8

abbrev pub decreases-factor : goal.decreases-factor
decreases-factor l = 30 * length l.tokens.now + 4

abbrev pub decreases-primary : goal.decreases-primary
decreases-primary l = 30 * length l.tokens.now + 2

abbrev pub decreases-started : goal.decreases-started
decreases-started l = 30 * length l.tokens.now + 1

abbrev pub decreases-parenthesized : goal.decreases-parenthesized
decreases-parenthesized l = 30 * length l.inside.now + 29

abbrev pub decreases-named : goal.decreases-named
decreases-named l = 30 * length l.rest.now

abbrev pub decreases-step : goal.decreases-step
decreases-step l = 30 * length l.tokens.now

abbrev pub decreases-joined : goal.decreases-joined
decreases-joined l = 30 * length l.tokens.now + 1

abbrev pub decreases-list : goal.decreases-list
decreases-list l = 30 * length l.tokens.now + 21

abbrev pub decreases-items : goal.decreases-items
decreases-items l = 30 * length l.tokens.now + 20

abbrev pub invariant-items-turn : goal.invariant-items-turn
invariant-items-turn l = record {
  found : (others : List Expr) (s : Tokens) → FirstItems l.rest others s → FirstItems l.tokens (l.all ++ others) s;
  fails : NoItems l.rest → NoItems l.tokens;
  shorter : length l.rest ≤ length l.tokens;
}

abbrev pub decreases-items-turn : goal.decreases-items-turn
decreases-items-turn l = length l.rest

abbrev pub invariant-joined-turn : goal.invariant-joined-turn
invariant-joined-turn l = record {
  best : (x : Expr) (s : Tokens) → BestJoin l.rule l.whole l.rest x s → BestJoin l.rule l.fn.first l.tokens x s;
  shorter : length l.rest ≤ length l.tokens;
}

abbrev pub decreases-joined-turn : goal.decreases-joined-turn
decreases-joined-turn l = length l.rest

abbrev pub invariant-factor-turn : goal.invariant-factor-turn
invariant-factor-turn l = record {
  powers : Powers l.tokens l.bases l.last l.rest;
  shorter : length l.rest < length l.tokens;
}

abbrev pub decreases-factor-turn : goal.decreases-factor-turn
decreases-factor-turn l = length l.rest

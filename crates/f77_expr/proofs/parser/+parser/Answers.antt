use Rattle.std.proofs.Common.{true, ◌≡◌, arith, rules, append_assoc, w64}
use Rattle.std.proofs.lemmas.Int.{to_z-of_z}
use mir.Val.{SFits}
use Rattle.f77_tree.specs.Names.{is_name}
use Rattle.f77_expr.proofs.Shorter.{next_length}
use Rattle.f77_expr.proofs.Chains.{best_stop, best_go}
use Rattle.f77_expr.proofs.Rules.{best_chain, best_negated, best_kept, best_sum, best_denied}
use Rattle.f77_expr.proofs.Options.{best_alone, best_compared}
use Rattle.f77_expr.proofs.Powers.{powers_more, powers_all}
use Rattle.f77_expr.proofs.Primaries.{best_number, best_bare, best_applied, best_paren, fails_unclosed}
use Rattle.f77_expr.proofs.Listed.{more_items, no_after}
use Rattle.f77_expr.proofs.parser.+parser.Goals as goal

pub chain-returns : goal.chain-returns
chain-returns t c =
    best_chain c.requires.left c.requires.plain (rw (c.in-Some.is, c.below.ensures.below) at c.in_ok-first.ensures) c.in_ok-joined.ensures

pub negation-returns : goal.negation-returns
negation-returns t c =
    rw (c.in_ok-denial.ensures {u = tt}) (best_denied c.in-Some.ensures (rw c.in-Some-2.is at c.in_ok-inner.ensures))

pub relation-returns-in_default-2 : goal.relation-returns-in_default-2
relation-returns-in_default-2 t c =
    best_alone (rw c.in-Some.is at c.in_ok-left.ensures) (rw c.in_default-2.is at c.in_ok-op.ensures)

pub relation-returns : goal.relation-returns
relation-returns t c =
    rw (c.in_ok-binary.ensures {u = tt})
    (best_compared (rw c.in-Some.is at c.in_ok-left.ensures) (rw c.in-Some-2.is at c.in_ok-op.ensures))

pub joined-returns : goal.joined-returns
joined-returns t c =
    c.turn.invariant.best _ _ (best_stop (rw (c.in_default.is, c.below.ensures.below) at c.in_ok-op.ensures))

pub joined-turn-preserved : goal.joined-turn-preserved
joined-turn-preserved t c =
    let step = rw (c.in-Some.is, c.below.ensures.below) at c.in_ok-op.ensures in
    record {
      best = λ x s best. c.turn.invariant.best x s (best_go c.requires step (rw (c.in_ok-whole.ensures {u = tt}) at best));
      shorter = omega (arith, step.shorter, c.turn.invariant.shorter);
    }

pub factor-returns : goal.factor-returns
factor-returns t c =
    rw (c.in_ok-grouped.ensures {u = tt}) (powers_all c.turn.invariant.powers (rw c.in_default-2.is at c.in_ok-right.ensures))

pub factor-turn-preserved : goal.factor-turn-preserved
factor-turn-preserved t c =
    let step = rw c.in-Some-2.is at c.in_ok-right.ensures in
    record {
      powers = rw c.in_ok-push.ensures.ok (powers_more c.turn.invariant.powers step);
      shorter = omega (arith, step.shorter, c.turn.invariant.shorter);
    }

pub primary-returns-in-Some-Int-default : goal.primary-returns-in-Some-Int-default
primary-returns-in-Some-Int-default t c =
    let fits : SFits w64 c.in-Some-Int-default.n = search rules in
    rw to_z-of_z (best_number _ _ (rw c.in-Some-Int-default.field-0-0-is at (c.in-Some-Int-default.ensures {u = tt}).cases).0)

pub named-returns-in_default : goal.named-returns-in_default
named-returns-in_default t c =
    let named : is_name c.args.word.now ≡ true = search rules in
    rw (c.in_ok-name.ensures {u = tt}) (best_bare _ c.requires named c.in_default.ensures)

pub named-returns : goal.named-returns
named-returns t c =
    let named : is_name c.args.word.now ≡ true = search rules in
    rw (c.in_ok-name.ensures {u = tt}) (best_applied _ c.requires named c.in-Some.ensures (rw c.in-Some-2.is at c.in_ok-all.ensures))

pub parenthesized-returns-in_default-eat : goal.parenthesized-returns-in_default-eat
parenthesized-returns-in_default-eat t c =
    fails_unclosed c.requires (rw c.in-Some.is at c.in_ok-inner.ensures) c.in_default-eat.ensures

pub parenthesized-returns : goal.parenthesized-returns
parenthesized-returns t c =
    rw (c.in_ok-new.ensures {u = tt}) (best_paren c.requires (rw c.in-Some.is at c.in_ok-inner.ensures) c.in-Some-eat.ensures)

pub items-turn-preserved : goal.items-turn-preserved
items-turn-preserved t c =
    let item = rw c.in-Some.is at c.in_ok-item.ensures in
    record {
      found = λ others s found. rw (c.in_ok-push.ensures.ok, append_assoc) (c.turn.invariant.found _ _ (more_items item c.in-Some-eat-2.ensures found));
      fails = λ none. c.turn.invariant.fails (no_after item c.in-Some-eat-2.ensures none);
      shorter = omega (arith, item.shorter, next_length c.in-Some-eat-2.ensures, c.turn.invariant.shorter);
    }

pub sum-returns-in-Some : goal.sum-returns-in-Some
sum-returns-in-Some t c =
    best_negated c.in-Some.ensures (rw c.in-Some-2.is at c.in_ok-term.ensures) (rw (c.in_ok-first.ensures {u = tt}) at c.in_ok-joined.ensures)

pub sum-returns-in-Some-eat : goal.sum-returns-in-Some-eat
sum-returns-in-Some-eat t c =
    best_kept c.in-Some-eat.ensures (rw c.in-Some-3.is at c.in_ok-term-2.ensures) (rw (c.in_ok-first-2.ensures {u = tt}) at c.in_ok-joined-2.ensures)

pub sum-returns : goal.sum-returns
sum-returns t c =
    best_sum (rw c.in-Some-4.is at c.in_ok-first-3.ensures) c.in_ok-joined-3.ensures

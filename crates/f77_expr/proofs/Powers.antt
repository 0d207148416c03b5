-- The longest power: primaries with `**` between, grouped from the right.
use Rattle.std.proofs.Common.{◌≡◌, List, [], ◌∷◌, ◌++◌, ap, sym, ◌∙◌, subst, refl, arith, Some}
use Rattle.f77_tree.specs.declared.expr.Op.{Op}
use Rattle.f77_tree.specs.declared.expr.Op.TheVariants as op
use Rattle.f77_tree.specs.declared.expr.Expr.{Expr}
use Rattle.f77_tree.specs.declared.expr.Expr.TheVariants as e
use Rattle.f77_expr.specs.declared.token.Kind.{Kind}
use Rattle.f77_expr.specs.declared.token.Rule.TheVariants as r
use Rattle.f77_expr.specs.Kinds.{Tokens, IsNext}
use Rattle.f77_expr.specs.Grammar.{operator}
use Rattle.f77_expr.specs.Best.{Best, Step, NoStep, Powers, powers}
use Rattle.f77_expr.proofs.NextToken.{is_pow}
use Rattle.f77_expr.proofs.Shorter.{next_length}
use Rattle.f77_expr.proofs.Options.{best_single, best_power}
use Rattle.f77_expr.proofs.Views.{Either, one, two, factor_either}

pub powers-none : (x : Expr) → powers [] x ≡ x
unfolding powers
powers-none x = refl

pub powers-cons : (base : Expr) (bases : List Expr) (x : Expr) → powers (base ∷ bases) x ≡ e.Binary op.Pow base (powers bases x)
unfolding powers
powers-cons base bases x = refl

pub powers-push : (bases : List Expr) (a x : Expr) → powers (bases ++ a ∷ []) x ≡ powers bases (e.Binary op.Pow a x)
powers-push [] a x = powers-cons a [] x ∙ (ap (λ y. e.Binary op.Pow a y) (powers-none x) ∙ sym (powers-none (e.Binary op.Pow a x)))
powers-push (base ∷ bases) a x =
    powers-cons base (bases ++ a ∷ []) x ∙ (ap (λ y. e.Binary op.Pow base y) (powers-push bases a x) ∙ sym (powers-cons base bases (e.Binary op.Pow a x)))

pub powers_start : {ts rest : Tokens} {a : Expr} → Best r.Primary ts a rest → Powers ts [] a rest
powers_start {ts} best = record {
  here = ts;
  primary = best;
  best = λ x s found. subst (λ y. Best r.Factor ts y s) (sym (powers-none x)) found;
}

step_factor : {ts s : Tokens} {o : Op} {b x : Expr} {more : Tokens} (step : Step r.Factor r.Primary ts o b more) → Best r.Factor step.rest x s → Step r.Factor r.Factor ts o x s
step_factor step best = record {
  kind = step.kind;
  rest = step.rest;
  next = step.next;
  is = step.is;
  best = best;
  shorter = omega (arith, next_length step.next, best.shorter);
}

-- `a ** x`, where the power x is the best behind `**`
best_raised : {ts rest more s : Tokens} {o : Op} {a b x : Expr} → Best r.Primary ts a rest → (step : Step r.Factor r.Primary rest o b more) → Best r.Factor step.rest x s → Best r.Factor ts (e.Binary op.Pow a x) s
best_raised {ts} {s = s} {a = a} {x = x} best step behind =
    subst (λ o. Best r.Factor ts (e.Binary o a x) s) (is_pow step.kind step.is) (best_power best (step_factor step behind))

pub powers_more : {ts rest more : Tokens} {bases : List Expr} {o : Op} {a b : Expr} → Powers ts bases a rest → Step r.Factor r.Primary rest o b more → Powers ts (bases ++ a ∷ []) b more
powers_more {ts} {bases = bases} {a = a} p step = record {
  here = step.rest;
  primary = step.best;
  best = λ x s found. subst (λ y. Best r.Factor ts y s) (sym (powers-push bases a x)) (p.best (e.Binary op.Pow a x) s (best_raised p.primary step found));
}

begins_primary : {ts rest z : Tokens} {kind : Kind} {o : Op} {y : Expr} → NoStep r.Factor r.Primary ts → IsNext ts kind rest → operator r.Factor kind ≡ Some o → Either r.Factor r.Primary r.Factor rest y z → ⊥
begins_primary last n is (one d) = last.not _ _ _ _ _ n is d
begins_primary last n is (two d m o q eq) = last.not _ _ _ _ _ n is d

pub powers_all : {ts rest : Tokens} {bases : List Expr} {a : Expr} → Powers ts bases a rest → NoStep r.Factor r.Primary rest → Best r.Factor ts (powers bases a) rest
powers_all {rest = rest} {a = a} p last =
    let alone : NoStep r.Factor r.Factor rest = record { not = λ kind more s o b n is d. begins_primary last n is (factor_either d) } in
    p.best a rest (best_single p.primary alone)

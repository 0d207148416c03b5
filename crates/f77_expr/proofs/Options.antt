-- The longest of a rule that is an operand of one rule, with one operator and operand behind it or none.
use Rattle.std.proofs.Common.{◌≡◌, ◌<◌, ◌≤◌, length, ap, sym, ◌∙◌, subst, refl, arith, ⊎_elim, inl, inr}
use Rattle.f77_tree.specs.declared.expr.Op.{Op}
use Rattle.f77_tree.specs.declared.expr.Expr.{Expr}
use Rattle.f77_tree.specs.declared.expr.Expr.TheVariants as e
use Rattle.f77_expr.specs.declared.token.Rule.{Rule}
use Rattle.f77_expr.specs.declared.token.Rule.TheVariants as r
use Rattle.f77_expr.specs.Kinds.{Tokens, IsNext}
use Rattle.f77_expr.specs.Grammar.{operator, Reads, alone, compared, single, power}
use Rattle.f77_expr.specs.Best.{level, Goes, Within, Best, Fails, Step, NoStep}
use Rattle.f77_expr.proofs.NextToken.{same_kind, same_rest, goes_level, goes_more, operator_level}
use Rattle.f77_expr.proofs.Chains.{some_same}
use Rattle.f77_expr.proofs.Views.{Either, one, two, relation_either, factor_either}

module _ (rule first second : Rule) (above : level rule < level first) (beside : level rule ≤ level second) where
  one_most : {ts s z : Tokens} {x y : Expr} → Best first ts x s → NoStep rule second s → Either rule first second ts y z → Within rule x s y z
  one_most best last (one d) = ⊎_elim (λ same. inl same) (λ less. inr (less.0, goes_more rule (omega (arith, above)) less.1)) (best.most _ _ d)
  one_most best last (two {rest = rest} {more = more} {kind = kind} {o = o} {a = a} {b = b} d n is q eq) =
      ⊎_elim (λ same. absurd (last.not kind more _ o b (subst (λ ts. IsNext ts kind more) same.1 n) is q))
      (λ less. absurd (omega (arith, above, goes_level less.1 n, operator_level rule kind is)))
      (best.most a rest d)

  two_most : {ts rest s z : Tokens} {o : Op} {a b y : Expr} → Best first ts a rest → Step rule second rest o b s → Either rule first second ts y z → Within rule (e.Binary o a b) s y z
  two_most {rest = rest} {s = s} best step (one d) =
      let here : Goes rule rest = record { kind = step.kind; rest = step.rest; next = step.next; above = omega (arith, operator_level rule step.kind step.is) } in
      ⊎_elim (λ same. inr (omega (arith, step.shorter, ap length same.1), subst (λ ts. Goes rule ts) (sym same.1) here))
      (λ less. inr (omega (arith, step.shorter, less.0), goes_more rule (omega (arith, above)) less.1))
      (best.most _ _ d)
  two_most {s = s} {z = z} {o = o} {a = a} {b = b} best step (two {rest = rest'} {more = more'} {kind = kind'} {o = o'} {a = a'} {b = b'} d n is q eq) =
      ⊎_elim
      (λ same.
      let m = subst (λ ts. IsNext ts kind' more') same.1 n in
      let kinds = same_kind step.next m in
      let ops : o' ≡ o = some_same (sym is ∙ (ap (operator rule) kinds ∙ step.is)) in
      ⊎_elim
      (λ same'. inl (eq ∙ (ap (λ o. e.Binary o a' b') ops ∙ (ap (λ a. e.Binary o a b') same.0 ∙ ap (λ b. e.Binary o a b) same'.0)), same'.1))
      (λ less. inr (less.0, goes_more rule beside less.1))
      (step.best.most b' z (subst (λ ts. Reads second ts b' z) (same_rest step.next m) q)))
      (λ less. absurd (omega (arith, above, goes_level less.1 n, operator_level rule kind' is)))
      (best.most a' rest' d)

pub best_alone : {ts s : Tokens} {x : Expr} → Best r.Sum ts x s → NoStep r.Relation r.Sum s → Best r.Relation ts x s
best_alone best last = record {
  reads = alone best.reads;
  shorter = best.shorter;
  most = λ y z d. one_most r.Relation r.Sum r.Sum (omega arith) (omega arith) best last (relation_either d);
}

pub best_compared : {ts rest s : Tokens} {o : Op} {a b : Expr} → Best r.Sum ts a rest → Step r.Relation r.Sum rest o b s → Best r.Relation ts (e.Binary o a b) s
best_compared best step = record {
  reads = compared best.reads step.next step.is step.best.reads refl;
  shorter = omega (arith, best.shorter, step.shorter);
  most = λ y z d. two_most r.Relation r.Sum r.Sum (omega arith) (omega arith) best step (relation_either d);
}

pub best_single : {ts s : Tokens} {x : Expr} → Best r.Primary ts x s → NoStep r.Factor r.Factor s → Best r.Factor ts x s
best_single best last = record {
  reads = single best.reads;
  shorter = best.shorter;
  most = λ y z d. one_most r.Factor r.Primary r.Factor (omega arith) (omega arith) best last (factor_either d);
}

pub best_power : {ts rest s : Tokens} {o : Op} {a b : Expr} → Best r.Primary ts a rest → Step r.Factor r.Factor rest o b s → Best r.Factor ts (e.Binary o a b) s
best_power best step = record {
  reads = power best.reads step.next step.is step.best.reads refl;
  shorter = omega (arith, best.shorter, step.shorter);
  most = λ y z d. two_most r.Factor r.Primary r.Factor (omega arith) (omega arith) best step (factor_either d);
}

not_either : {rule first second : Rule} {ts z : Tokens} {y : Expr} → Fails first ts → Either rule first second ts y z → ⊥
not_either fails (one d) = fails.not _ _ d
not_either fails (two d n is q eq) = fails.not _ _ d

pub fails_relation : {ts : Tokens} → Fails r.Sum ts → Fails r.Relation ts
fails_relation fails = record { not = λ y z d. not_either fails (relation_either d) }

pub fails_factor : {ts : Tokens} → Fails r.Primary ts → Fails r.Factor ts
fails_factor fails = record { not = λ y z d. not_either fails (factor_either d) }

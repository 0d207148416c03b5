-- The longest of the levels that group from the left, and of sums with a sign.
use Rattle.std.proofs.Common.{◌≡◌, ap, ◌∙◌, subst, refl, arith, ⊎_elim, inl, inr}
use Rattle.f77_tree.specs.declared.expr.Expr.{Expr}
use Rattle.f77_tree.specs.declared.expr.Expr.TheVariants as e
use Rattle.f77_expr.specs.declared.token.Kind.TheVariants as k
use Rattle.f77_expr.specs.declared.token.Rule.{Rule}
use Rattle.f77_expr.specs.declared.token.Rule.TheVariants as r
use Rattle.f77_expr.specs.Kinds.{Tokens, IsNext}
use Rattle.f77_expr.specs.Grammar.{below, GroupsLeft, by_sign, Reads, chain, asserted, denied, negated, kept, Joins}
use Rattle.f77_expr.specs.Best.{Within, Best, Fails, BestJoin, NotNext, IsPlain}
use Rattle.f77_expr.proofs.NextToken.{same_kind, same_rest}
use Rattle.f77_expr.proofs.Shorter.{next_length}
use Rattle.f77_expr.proofs.FirstKinds.{no_minus, no_plus, no_not}
use Rattle.f77_expr.proofs.Chains.{within_stuck, most_at}
use Rattle.f77_expr.proofs.Views.{Chained, chained, Signed, bare, minus, plus, signed, Denies, as_is, by_not, denies}

-- ---- chains

pub chain_most : {rule : Rule} {ts rest s z : Tokens} {a x y : Expr} → GroupsLeft rule → Best (below rule) ts a rest → BestJoin rule a rest x s → Chained rule ts y z → Within rule x s y z
chain_most left best joined c =
    ⊎_elim (λ same. most_at joined same.0 same.1 c.joins)
    (λ less. within_stuck left (omega (arith, joined.shorter, less.0)) less.1 c.joins)
    (best.most c.a c.rest c.reads)

pub best_chain : {rule : Rule} {ts rest s : Tokens} {a x : Expr} → GroupsLeft rule → IsPlain rule → Best (below rule) ts a rest → BestJoin rule a rest x s → Best rule ts x s
best_chain left plain best joined = record {
  reads = chain left best.reads joined.joins;
  shorter = omega (arith, best.shorter, joined.shorter);
  most = λ y z d. chain_most left best joined (chained plain d);
}

pub fails_chain : {rule : Rule} {ts : Tokens} → IsPlain rule → Fails (below rule) ts → Fails rule ts
fails_chain plain fails = record { not = λ y z d. let c = chained plain d in fails.not c.a c.rest c.reads }

-- ---- sums

-- a term with a sign before it, and what is joined to it
term_most : {rest rest' more more' s z : Tokens} {a a' x y : Expr} (sign : Expr → Expr) → Best r.Product rest a more → BestJoin r.Sum (sign a) more x s → rest' ≡ rest → Reads r.Product rest' a' more' → Joins r.Sum (sign a') more' y z → Within r.Sum x s y z
term_most {more' = more'} {a' = a'} sign best joined same d j =
    ⊎_elim (λ same. most_at joined (ap sign same.0) same.1 j)
    (λ less. within_stuck by_sign (omega (arith, joined.shorter, less.0)) less.1 j)
    (best.most a' more' (subst (λ ts. Reads r.Product ts a' more') same d))

negated_most : {ts rest more s z : Tokens} {a x y : Expr} → IsNext ts k.Minus rest → Best r.Product rest a more → BestJoin r.Sum (e.Neg a) more x s → Signed ts y z → Within r.Sum x s y z
negated_most n best joined (bare c) = absurd (no_minus (omega arith) c.reads n)
negated_most n best joined (minus m d j) = term_most e.Neg best joined (same_rest n m) d j
negated_most n best joined (plus m d j) = let kinds = same_kind n m in cc

pub best_negated : {ts rest more s : Tokens} {a x : Expr} → IsNext ts k.Minus rest → Best r.Product rest a more → BestJoin r.Sum (e.Neg a) more x s → Best r.Sum ts x s
best_negated n best joined = record {
  reads = negated n best.reads joined.joins;
  shorter = omega (arith, next_length n, best.shorter, joined.shorter);
  most = λ y z d. negated_most n best joined (signed d);
}

kept_most : {ts rest more s z : Tokens} {a x y : Expr} → IsNext ts k.Plus rest → Best r.Product rest a more → BestJoin r.Sum (e.Plus a) more x s → Signed ts y z → Within r.Sum x s y z
kept_most n best joined (bare c) = absurd (no_plus (omega arith) c.reads n)
kept_most n best joined (minus m d j) = let kinds = same_kind n m in cc
kept_most n best joined (plus m d j) = term_most e.Plus best joined (same_rest n m) d j

pub best_kept : {ts rest more s : Tokens} {a x : Expr} → IsNext ts k.Plus rest → Best r.Product rest a more → BestJoin r.Sum (e.Plus a) more x s → Best r.Sum ts x s
best_kept n best joined = record {
  reads = kept n best.reads joined.joins;
  shorter = omega (arith, next_length n, best.shorter, joined.shorter);
  most = λ y z d. kept_most n best joined (signed d);
}

not_negated : {ts rest z : Tokens} {y : Expr} → IsNext ts k.Minus rest → Fails r.Product rest → Signed ts y z → ⊥
not_negated n fails (bare c) = no_minus (omega arith) c.reads n
not_negated n fails (minus {more = more'} {a = a'} m d j) = fails.not a' more' (subst (λ ts. Reads r.Product ts a' more') (same_rest n m) d)
not_negated n fails (plus m d j) = let kinds = same_kind n m in cc

pub fails_negated : {ts rest : Tokens} → IsNext ts k.Minus rest → Fails r.Product rest → Fails r.Sum ts
fails_negated n fails = record { not = λ y z d. not_negated n fails (signed d) }

not_kept : {ts rest z : Tokens} {y : Expr} → IsNext ts k.Plus rest → Fails r.Product rest → Signed ts y z → ⊥
not_kept n fails (bare c) = no_plus (omega arith) c.reads n
not_kept n fails (minus m d j) = let kinds = same_kind n m in cc
not_kept n fails (plus {more = more'} {a = a'} m d j) = fails.not a' more' (subst (λ ts. Reads r.Product ts a' more') (same_rest n m) d)

pub fails_kept : {ts rest : Tokens} → IsNext ts k.Plus rest → Fails r.Product rest → Fails r.Sum ts
fails_kept n fails = record { not = λ y z d. not_kept n fails (signed d) }

sum_most : {ts rest s z : Tokens} {a x y : Expr} → Best r.Product ts a rest → BestJoin r.Sum a rest x s → Signed ts y z → Within r.Sum x s y z
sum_most best joined (bare c) = chain_most by_sign best joined c
sum_most best joined (minus n d j) = absurd (no_minus (omega arith) best.reads n)
sum_most best joined (plus n d j) = absurd (no_plus (omega arith) best.reads n)

pub best_sum : {ts rest s : Tokens} {a x : Expr} → Best r.Product ts a rest → BestJoin r.Sum a rest x s → Best r.Sum ts x s
best_sum best joined = record {
  reads = chain by_sign best.reads joined.joins;
  shorter = omega (arith, best.shorter, joined.shorter);
  most = λ y z d. sum_most best joined (signed d);
}

not_sum : {ts z : Tokens} {y : Expr} → NotNext ts k.Minus → NotNext ts k.Plus → Fails r.Product ts → Signed ts y z → ⊥
not_sum no_sign no_other fails (bare c) = fails.not c.a c.rest c.reads
not_sum no_sign no_other fails (minus n d j) = no_sign.not _ n
not_sum no_sign no_other fails (plus n d j) = no_other.not _ n

pub fails_sum : {ts : Tokens} → NotNext ts k.Minus → NotNext ts k.Plus → Fails r.Product ts → Fails r.Sum ts
fails_sum no_sign no_other fails = record { not = λ y z d. not_sum no_sign no_other fails (signed d) }

-- ---- negations

pub loosened : {x y : Expr} {s z : Tokens} → Within r.Relation x s y z → Within r.Negation x s y z
loosened w = ⊎_elim (λ same. inl same) (λ less. inr (less.0, record { kind = less.1.kind; rest = less.1.rest; next = less.1.next; above = omega (arith, less.1.above) })) w

asserted_most : {ts s z : Tokens} {x y : Expr} → NotNext ts k.Not → Best r.Relation ts x s → Denies ts y z → Within r.Negation x s y z
asserted_most plain best (as_is d) = loosened (best.most _ _ d)
asserted_most plain best (by_not n d eq) = absurd (plain.not _ n)

pub best_asserted : {ts s : Tokens} {x : Expr} → NotNext ts k.Not → Best r.Relation ts x s → Best r.Negation ts x s
best_asserted plain best = record {
  reads = asserted best.reads;
  shorter = best.shorter;
  most = λ y z d. asserted_most plain best (denies d);
}

denied_most : {ts rest s z : Tokens} {a y : Expr} → IsNext ts k.Not rest → Best r.Relation rest a s → Denies ts y z → Within r.Negation (e.Not a) s y z
denied_most n best (as_is d) = absurd (no_not (omega arith) d n)
denied_most {z = z} n best (by_not {a = a'} m d eq) =
    ⊎_elim (λ same. inl (eq ∙ ap e.Not same.0, same.1))
    (λ less. inr (less.0, record { kind = less.1.kind; rest = less.1.rest; next = less.1.next; above = omega (arith, less.1.above) }))
    (best.most a' z (subst (λ ts. Reads r.Relation ts a' z) (same_rest n m) d))

pub best_denied : {ts rest s : Tokens} {a : Expr} → IsNext ts k.Not rest → Best r.Relation rest a s → Best r.Negation ts (e.Not a) s
best_denied n best = record {
  reads = denied n best.reads refl;
  shorter = omega (arith, next_length n, best.shorter);
  most = λ y z d. denied_most n best (denies d);
}

not_asserted : {ts z : Tokens} {y : Expr} → NotNext ts k.Not → Fails r.Relation ts → Denies ts y z → ⊥
not_asserted plain fails (as_is d) = fails.not _ _ d
not_asserted plain fails (by_not n d eq) = plain.not _ n

pub fails_asserted : {ts : Tokens} → NotNext ts k.Not → Fails r.Relation ts → Fails r.Negation ts
fails_asserted plain fails = record { not = λ y z d. not_asserted plain fails (denies d) }

not_denied : {ts rest z : Tokens} {y : Expr} → IsNext ts k.Not rest → Fails r.Relation rest → Denies ts y z → ⊥
not_denied n fails (as_is d) = no_not (omega arith) d n
not_denied {z = z} n fails (by_not {a = a'} m d eq) = fails.not a' z (subst (λ ts. Reads r.Relation ts a' z) (same_rest n m) d)

pub fails_denied : {ts rest : Tokens} → IsNext ts k.Not rest → Fails r.Relation rest → Fails r.Negation ts
fails_denied n fails = record { not = λ y z d. not_denied n fails (denies d) }

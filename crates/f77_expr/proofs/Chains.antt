-- The longest chain of operands.
use Rattle.std.proofs.Common.{◌≡◌, ◌<◌, length, ap, sym, ◌∙◌, subst, refl, arith, Some, ⊎_elim, inl, inr}
use Rattle.f77_tree.specs.declared.expr.Op.{Op}
use Rattle.f77_tree.specs.declared.expr.Expr.{Expr}
use Rattle.f77_tree.specs.declared.expr.Expr.TheVariants as e
use Rattle.f77_expr.specs.declared.token.Rule.{Rule}
use Rattle.f77_expr.specs.Kinds.{Tokens}
use Rattle.f77_expr.specs.Grammar.{below, operator, GroupsLeft, Reads, Joins, stop, go}
use Rattle.f77_expr.specs.Best.{Goes, Within, BestJoin, Step, NoStep}
use Rattle.f77_expr.proofs.NextToken.{same_kind, same_rest, goes_level, goes_more, below_level, operator_level}

abbrev pub pair_of : {A B : Type 0} → A → B → A × B
pair_of a b = (a, b)

pub pair_same : {A B : Type 0} {a a' : A} {b b' : B} → a ≡ a' → b ≡ b' → pair_of a b ≡ pair_of a' b'
pair_same e f = cc

pub some_same : {A : Type 0} {a b : A} → Some a ≡ Some b → a ≡ b
some_same e = cc

-- No operator of the rule is where a tighter one would be.
pub joins_stuck : {rule : Rule} {a x : Expr} {ts s : Tokens} → GroupsLeft rule → Goes (below rule) ts → Joins rule a ts x s → s ≡ ts
joins_stuck left goes (stop e f) = f
joins_stuck left goes (go {kind = kind} n o r j) =
    absurd (omega (arith, below_level left, goes_level goes n, operator_level _ kind o))

-- Behind a shorter operand nothing is joined.
pub within_stuck : {rule : Rule} {a x y : Expr} {rest s z : Tokens} → GroupsLeft rule → length s < length rest → Goes (below rule) rest → Joins rule a rest y z → Within rule x s y z
within_stuck {rule} left short goes j =
    let same = joins_stuck left goes j in
    let loose = goes_more rule (omega (arith, below_level left)) goes in
    inr (omega (arith, ap length same), subst (λ ts. Goes rule ts) (sym same) loose)

pub stop_most : {rule : Rule} {a y : Expr} {ts z : Tokens} → NoStep rule (below rule) ts → Joins rule a ts y z → Within rule a ts y z
stop_most none (stop e f) = inl (e, f)
stop_most none (go n o r j) = absurd (none.not _ _ _ _ _ n o r)

pub best_stop : {rule : Rule} {a : Expr} {ts : Tokens} → NoStep rule (below rule) ts → BestJoin rule a ts a ts
best_stop none = record { joins = stop refl refl; shorter = omega arith; most = λ y z j. stop_most none j }

pub most_at : {rule : Rule} {a b x y : Expr} {ts more s z : Tokens} → BestJoin rule a more x s → b ≡ a → ts ≡ more → Joins rule b ts y z → Within rule x s y z
most_at {rule} {y = y} {z = z} best e f j =
    best.most y z (subst (λ (p : Expr × Tokens). Joins rule p.0 p.1 y z) (pair_same e f) j)

pub go_most : {rule : Rule} {a x y : Expr} {o : Op} {b : Expr} {ts more s z : Tokens} → GroupsLeft rule → Step rule (below rule) ts o b more → BestJoin rule (e.Binary o a b) more x s → Joins rule a ts y z → Within rule x s y z
go_most {rule} {ts = ts} left step best (stop e f) =
    inr (omega (arith, step.shorter, best.shorter, ap length f), subst (λ ts. Goes rule ts) (sym f) (record { kind = step.kind; rest = step.rest; next = step.next; above = omega (arith, operator_level rule step.kind step.is) }))
go_most {rule} {a = a} {o = o} left step best (go {kind = kind} {o = o'} {b = b'} {rest = rest'} {more = more'} n is r j) =
    let kinds = same_kind step.next n in
    let rests = same_rest step.next n in
    let ops : o' ≡ o = some_same (sym is ∙ (ap (operator rule) kinds ∙ step.is)) in
    ⊎_elim
    (λ same. most_at best (ap (λ o. e.Binary o a b') ops ∙ ap (λ b. e.Binary o a b) same.0) same.1 j)
    (λ less. within_stuck left (omega (arith, best.shorter, less.0)) less.1 j)
    (step.best.most b' more' (subst (λ ts. Reads (below rule) ts b' more') rests r))

pub best_go : {rule : Rule} {a x : Expr} {o : Op} {b : Expr} {ts more s : Tokens} → GroupsLeft rule → Step rule (below rule) ts o b more → BestJoin rule (e.Binary o a b) more x s → BestJoin rule a ts x s
best_go left step best = record {
  joins = go step.next step.is step.best.reads best.joins;
  shorter = omega (arith, step.shorter, best.shorter);
  most = λ y z j. go_most left step best j;
}

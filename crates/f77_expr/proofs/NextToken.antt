-- The next token, and what may go on.
use Rattle.std.proofs.Common.{◌≡◌, suc, ◌≤◌, ap, sym, ◌∙◌, subst, refl, arith, Some}
use Rattle.f77_tree.specs.declared.expr.Op.{Op}
use Rattle.f77_tree.specs.declared.expr.Op.TheVariants as op
use Rattle.f77_expr.specs.declared.token.Kind.{Kind}
use Rattle.f77_expr.specs.declared.token.Kind.TheVariants as k
use Rattle.f77_expr.specs.declared.token.Rule.{Rule}
use Rattle.f77_expr.specs.declared.token.Rule.TheVariants as r
use Rattle.f77_expr.specs.Kinds.{Tokens, kind_of, IsNext}
use Rattle.f77_expr.specs.Grammar.{below, operator, GroupsLeft, by_equivalence, by_or, by_and, by_sign, by_star}
use Rattle.f77_expr.specs.Longest.{strength}
use Rattle.f77_expr.specs.Best.{level, Goes}

pub same_kind : {ts rest rest' : Tokens} {kind kind' : Kind} → IsNext ts kind rest → IsNext ts kind' rest' → kind' ≡ kind
same_kind n m = let e : m.token ≡ n.token = cc (n.front, m.front) in sym m.is ∙ (ap kind_of e ∙ n.is)

pub same_rest : {ts rest rest' : Tokens} {kind kind' : Kind} → IsNext ts kind rest → IsNext ts kind' rest' → rest' ≡ rest
same_rest n m = cc (n.front, m.front)

pub goes_level : {rule : Rule} {ts rest : Tokens} {kind : Kind} → Goes rule ts → IsNext ts kind rest → level rule ≤ strength kind
goes_level {rule} g n = subst (λ kind. level rule ≤ strength kind) (sym (same_kind g.next n)) g.above

pub goes_more : {rule : Rule} {ts : Tokens} (rule' : Rule) → level rule' ≤ level rule → Goes rule ts → Goes rule' ts
goes_more rule' h g = record { kind = g.kind; rest = g.rest; next = g.next; above = omega (arith, h, g.above) }

pub below_level : {rule : Rule} → GroupsLeft rule → level (below rule) ≡ suc (level rule)
below_level by_equivalence = refl
below_level by_or = refl
below_level by_and = refl
below_level by_sign = refl
below_level by_star = refl

pub operator_level : (rule : Rule) (kind : Kind) {o : Op} → operator rule kind ≡ Some o → strength kind ≡ level rule
operator_level r.Equivalence k.Eqv e = refl
operator_level r.Equivalence k.Neqv e = refl
operator_level r.Equivalence _ e = cc
operator_level r.Disjunction k.Or e = refl
operator_level r.Disjunction _ e = cc
operator_level r.Conjunction k.And e = refl
operator_level r.Conjunction _ e = cc
operator_level r.Negation _ e = cc
operator_level r.Relation k.Eq e = refl
operator_level r.Relation k.Ne e = refl
operator_level r.Relation k.Lt e = refl
operator_level r.Relation k.Le e = refl
operator_level r.Relation k.Gt e = refl
operator_level r.Relation k.Ge e = refl
operator_level r.Relation _ e = cc
operator_level r.Sum k.Plus e = refl
operator_level r.Sum k.Minus e = refl
operator_level r.Sum _ e = cc
operator_level r.Product k.Star e = refl
operator_level r.Product k.Slash e = refl
operator_level r.Product _ e = cc
operator_level r.Factor k.Power e = refl
operator_level r.Factor _ e = cc
operator_level r.Primary _ e = cc

-- the operator of powers
pub is_pow : (kind : Kind) {o : Op} → operator r.Factor kind ≡ Some o → o ≡ op.Pow
is_pow k.Power e = cc
is_pow _ e = cc

pub goes_by : {rule : Rule} {ts rest : Tokens} {kind : Kind} {o : Op} → IsNext ts kind rest → operator rule kind ≡ Some o → Goes rule ts
goes_by {rule} {kind = kind} n is = record { kind = kind; rest = _; next = n; above = omega (arith, operator_level rule kind is) }

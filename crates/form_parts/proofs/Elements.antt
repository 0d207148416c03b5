-- Variables and array elements are read in one way.
use Rattle.std.proofs.Common.{◌≡◌, ℕ, true, List, ap, sym, ◌∙◌, subst, refl, arith}
use Rattle.f77_tree.specs.declared.expr.Expr.{Expr}
use Rattle.f77_tree.specs.declared.expr.Expr.TheVariants as e
use Rattle.f77_expr.specs.declared.token.Kind.TheVariants as k
use Rattle.f77_expr.specs.Kinds.{Tokens, IsNext}
use Rattle.f77_expr.specs.Grammar.{ReadsExpression}
use Rattle.form_parts.specs.Listed.{Parenthesized}
use Rattle.form_parts.specs.Only.{Follows, OnlyPart, OnlyFront, NoFront}
use Rattle.form_parts.specs.Parts.{IsName, IsVariable, plain, element}
use Rattle.form_parts.proofs.Following.{not_open}

element_only : {ts rest s z : Tokens} {name : List ℕ} {all : List Expr} {x : Expr} → OnlyFront IsName ts name rest → OnlyFront (Parenthesized ReadsExpression) rest all s → IsVariable ts x z → Follows true z → (x ≡ e.Apply name all) × (z ≡ s)
element_only {z = z} n l (plain {name = other} m is) f =
    let same = n.only other z m in
    absurd (not_open f (subst (λ w. IsNext w k.Open l.part.inside) (sym same.1) l.part.opens))
element_only {z = z} {name = name} n l (element {rest = rest} {name = other} {subscripts = more} m c is) f =
    let same = n.only other rest m in
    let lists = l.only more z (subst (λ w. Parenthesized ReadsExpression w more z) same.1 c) in
    (is ∙ (ap (λ name. e.Apply name more) same.0 ∙ ap (λ all. e.Apply name all) lists.0), lists.1)

pub is_element : {ts rest s : Tokens} {name : List ℕ} {all : List Expr} → OnlyFront IsName ts name rest → OnlyFront (Parenthesized ReadsExpression) rest all s → OnlyPart IsVariable true ts (e.Apply name all) s
is_element n l = record {
  part = element n.part l.part refl;
  shorter = omega (arith, n.shorter, l.shorter);
  only = λ x z v f. element_only n l v f;
}

bare_only : {ts rest z : Tokens} {name : List ℕ} {x : Expr} → OnlyFront IsName ts name rest → NoFront (Parenthesized ReadsExpression) rest → IsVariable ts x z → (x ≡ e.Scalar name) × (z ≡ rest)
bare_only {z = z} n lacks (plain {name = other} m is) = let same = n.only other z m in (is ∙ ap e.Scalar same.0, same.1)
bare_only {z = z} n lacks (element {rest = rest} {name = other} {subscripts = more} m c is) =
    let same = n.only other rest m in
    absurd (lacks.not more z (subst (λ w. Parenthesized ReadsExpression w more z) same.1 c))

pub is_bare : {ts rest : Tokens} {name : List ℕ} → OnlyFront IsName ts name rest → NoFront (Parenthesized ReadsExpression) rest → OnlyPart IsVariable true ts (e.Scalar name) rest
is_bare n lacks = record { part = plain n.part refl; shorter = n.shorter; only = λ x z v f. bare_only n lacks v }

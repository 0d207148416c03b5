-- Names and declarators are read in one way.
use Rattle.std.proofs.Common.{◌≡◌, ℕ, Bool, true, List, [], ap, sym, ◌∙◌, subst, refl, arith, Option}
use Rattle.f77_tree.specs.declared.expr.Expr.{Expr}
use Rattle.f77_tree.specs.declared.form.Declarator.{Declarator}
use Rattle.f77_expr.specs.declared.token.Kind.TheVariants as k
use Rattle.f77_expr.specs.Kinds.{Tokens, IsNext}
use Rattle.form_parts.specs.Only.{Follows, OnlyPart, NoPart, OnlyFront, NoFront}
use Rattle.form_parts.specs.Parts.{IsName}
use Rattle.form_specification.specs.Declarators.{AreBounds, IsDeclarator, plain, array}
use Rattle.form_parts.proofs.Following.{not_open}

declarator_is : (d : Declarator) {name : List ℕ} {bounds : List (Option Expr × Option Expr)} → d.name ≡ name → d.bounds ≡ bounds → d ≡ record { name = name; bounds = bounds }
declarator_is d {name} {bounds} n b = ap (λ name. record d { name = name }) n ∙ ap (λ bounds. record { name = name; bounds = bounds }) b

array_only : {ts rest s z : Tokens} {name : List ℕ} {bounds : List (Option Expr × Option Expr)} {d : Declarator} → OnlyFront IsName ts name rest → OnlyFront AreBounds rest bounds s → IsDeclarator ts d z → Follows true z → (d ≡ record { name = name; bounds = bounds }) × (z ≡ s)
array_only {z = z} {d = d} n b (plain m is) f =
    let same = n.only d.name z m in
    let opens = b.part.listed.opens in
    absurd (not_open f (subst (λ w. IsNext w k.Open b.part.listed.inside) (sym same.1) opens))
array_only {z = z} {d = d} n b (array {rest = rest} m c) f =
    let same = n.only d.name rest m in
    let bounds = b.only d.bounds z (subst (λ w. AreBounds w d.bounds z) same.1 c) in
    (declarator_is d same.0 bounds.0, bounds.1)

pub declares_array : {ts rest s : Tokens} {name : List ℕ} {bounds : List (Option Expr × Option Expr)} → OnlyFront IsName ts name rest → OnlyFront AreBounds rest bounds s → OnlyPart IsDeclarator true ts (record { name = name; bounds = bounds }) s
declares_array n b = record {
  part = array n.part b.part;
  shorter = omega (arith, n.shorter, b.shorter);
  only = λ d z p f. array_only n b p f;
}

plain_only : {ts rest z : Tokens} {name : List ℕ} {d : Declarator} → OnlyFront IsName ts name rest → NoFront AreBounds rest → IsDeclarator ts d z → (d ≡ record { name = name; bounds = [] }) × (z ≡ rest)
plain_only {z = z} {d = d} n lacks (plain m is) = let same = n.only d.name z m in (declarator_is d same.0 is, same.1)
plain_only {z = z} {d = d} n lacks (array {rest = rest} m c) =
    let same = n.only d.name rest m in
    absurd (lacks.not d.bounds z (subst (λ w. AreBounds w d.bounds z) same.1 c))

pub declares_plain : {ts rest : Tokens} {name : List ℕ} → OnlyFront IsName ts name rest → NoFront AreBounds rest → OnlyPart IsDeclarator true ts (record { name = name; bounds = [] }) rest
declares_plain n lacks = record {
  part = plain n.part refl;
  shorter = n.shorter;
  only = λ d z p f. plain_only n lacks p;
}

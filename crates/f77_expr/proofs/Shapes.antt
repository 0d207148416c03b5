-- Primaries of one shape: another reading is the same, or ends earlier.
use Rattle.std.proofs.Common.{◌≡◌, ℕ, true, false, List, ◌∷◌, length, ap, sym, ◌∙◌, subst, arith, inl, inr}
use Rattle.f77_tree.specs.declared.expr.Expr.{Expr}
use Rattle.f77_tree.specs.declared.expr.Expr.TheVariants as e
use Rattle.f77_expr.specs.declared.token.Token.TheVariants as t
use Rattle.f77_expr.specs.declared.token.Kind.TheVariants as k
use Rattle.f77_expr.specs.declared.token.Rule.TheVariants as r
use Rattle.f77_expr.specs.Kinds.{Tokens, IsNext}
use Rattle.f77_expr.specs.Grammar.{Reads, Lists}
use Rattle.f77_expr.specs.Best.{Goes, Within}
use Rattle.f77_expr.proofs.NextToken.{same_kind, same_rest}
use Rattle.f77_expr.proofs.Shorter.{next_length, lists_shorter}
use Rattle.f77_expr.proofs.FirstKinds.{int_kind, word_kind}
use Rattle.f77_expr.proofs.Views.{Shape, a_number, a_yes, a_no, a_name, an_applied, a_paren}

pub number_most : {ts s z : Tokens} {y : Expr} (n digits : _) → ts ≡ t.Int n digits ∷ s → Shape ts y z → Within r.Primary (e.Int n) s y z
number_most {s = s} {z = z} n digits f (a_number n' digits' f' eq) =
    let same : t.Int n' digits' ≡ t.Int n digits = cc in let ns : n' ≡ n = cc in let rests : z ≡ s = cc in inl (eq ∙ ap e.Int ns, rests)
number_most n digits f (a_yes m eq) = let kinds = int_kind f m in cc
number_most n digits f (a_no m eq) = let kinds = int_kind f m in cc
number_most n digits f (a_name word f' named eq) = let no_way : t.Int n digits ≡ t.Word word = cc in cc
number_most n digits f (an_applied word f' named m l eq) = let no_way : t.Int n digits ≡ t.Word word = cc in cc
number_most n digits f (a_paren m d q eq) = let kinds = int_kind f m in cc

pub yes_most : {ts s z : Tokens} {y : Expr} → IsNext ts k.True s → Shape ts y z → Within r.Primary (e.Truth true) s y z
yes_most n (a_number n' digits' f' eq) = let kinds = int_kind f' n in cc
yes_most n (a_yes m eq) = inl (eq, same_rest n m)
yes_most n (a_no m eq) = let kinds = same_kind n m in cc
yes_most n (a_name word f' named eq) = let kinds = word_kind f' n in cc
yes_most n (an_applied word f' named m l eq) = let kinds = word_kind f' n in cc
yes_most n (a_paren m d q eq) = let kinds = same_kind n m in cc

pub no_most : {ts s z : Tokens} {y : Expr} → IsNext ts k.False s → Shape ts y z → Within r.Primary (e.Truth false) s y z
no_most n (a_number n' digits' f' eq) = let kinds = int_kind f' n in cc
no_most n (a_yes m eq) = let kinds = same_kind n m in cc
no_most n (a_no m eq) = inl (eq, same_rest n m)
no_most n (a_name word f' named eq) = let kinds = word_kind f' n in cc
no_most n (an_applied word f' named m l eq) = let kinds = word_kind f' n in cc
no_most n (a_paren m d q eq) = let kinds = same_kind n m in cc

pub open_here : {ts more : Tokens} → IsNext ts k.Open more → Goes r.Primary ts
open_here n = record { kind = k.Open; rest = _; next = n; above = omega arith }

-- a name with a list, where the lists behind it agree
pub applied_most : {ts rest more s z : Tokens} {all : List Expr} {y : Expr} (word : List ℕ) → ts ≡ t.Word word ∷ rest → IsNext rest k.Open more → Lists more all s → ((others : List Expr) (v : Tokens) → Lists more others v → (all ≡ others) × (s ≡ v)) → Shape ts y z → Within r.Primary (e.Apply word all) s y z
applied_most word f n l agrees (a_number n' digits' f' eq) = let no_way : t.Int n' digits' ≡ t.Word word = cc in cc
applied_most word f n l agrees (a_yes m eq) = let kinds = word_kind f m in cc
applied_most word f n l agrees (a_no m eq) = let kinds = word_kind f m in cc
applied_most {rest = rest} {z = z} word f n l agrees (a_name word' f' named eq) =
    let rests : rest ≡ z = cc in
    inr (omega (arith, ap length rests, next_length n, lists_shorter l), subst (λ ts. Goes r.Primary ts) rests (open_here n))
applied_most {rest = rest} {z = z} {all = all} word f n l agrees (an_applied {rest = rest'} {more = more'} {all = all'} word' f' named m l' eq) =
    let words : word' ≡ word = cc in
    let rests : rest' ≡ rest = cc in
    let both = agrees all' z (subst (λ ts. Lists ts all' z) (same_rest n (subst (λ ts. IsNext ts k.Open more') rests m)) l') in
    inl (eq ∙ (ap (λ w. e.Apply w all') words ∙ ap (λ es. e.Apply word es) (sym both.0)), sym both.1)
applied_most word f n l agrees (a_paren m d q eq) = let kinds = word_kind f m in cc

-- an expression in parentheses, where those that end before a closing one agree
pub paren_most : {ts rest more s z : Tokens} {a y : Expr} → IsNext ts k.Open rest → ((b : Expr) (v u : Tokens) → Reads r.Equivalence rest b v → IsNext v k.Close u → (b ≡ a) × (v ≡ more)) → IsNext more k.Close s → Shape ts y z → Within r.Primary (e.Paren a) s y z
paren_most n agrees m (a_number n' digits' f' eq) = let kinds = int_kind f' n in cc
paren_most n agrees m (a_yes q eq) = let kinds = same_kind n q in cc
paren_most n agrees m (a_no q eq) = let kinds = same_kind n q in cc
paren_most n agrees m (a_name word f' named eq) = let kinds = word_kind f' n in cc
paren_most n agrees m (an_applied word f' named q l eq) = let kinds = word_kind f' n in cc
paren_most {z = z} n agrees m (a_paren {rest = rest'} {more = more'} {a = a'} n' d m' eq) =
    let both = agrees a' more' z (subst (λ ts. Reads r.Equivalence ts a' more') (same_rest n n') d) m' in
    inl (eq ∙ ap e.Paren both.0, same_rest m (subst (λ ts. IsNext ts k.Close z) both.1 m'))

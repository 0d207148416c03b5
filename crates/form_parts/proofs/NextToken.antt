-- The next token of a list of tokens.
use Rattle.std.proofs.Common.{◌≡◌, ℕ, suc, ◌<◌, ◌==◌, Bool, true, false, List, [], ◌∷◌, length, ap, sym, ◌∙◌, refl, arith}
use Rattle.std.proofs.lemmas.Bool.Decides.{nat_tests}
use Rattle.f77_expr.specs.declared.token.Token.TheVariants as t
use Rattle.f77_expr.specs.declared.token.Kind.{Kind}
use Rattle.f77_expr.specs.declared.token.Kind.TheVariants as k
use Rattle.f77_expr.specs.Kinds.{Tokens, kind_of, IsNext}
use Rattle.form_parts.specs.Parts.{IsName}

pub next_shorter : {ts rest : Tokens} {kind : Kind} → IsNext ts kind rest → length rest < length ts
next_shorter n = omega (arith, ap length n.front)

pub same_kind : {ts rest rest' : Tokens} {kind kind' : Kind} → IsNext ts kind rest → IsNext ts kind' rest' → kind' ≡ kind
same_kind n m = let e : m.token ≡ n.token = cc (n.front, m.front) in sym m.is ∙ (ap kind_of e ∙ n.is)

pub same_rest : {ts rest rest' : Tokens} {kind kind' : Kind} → IsNext ts kind rest → IsNext ts kind' rest' → rest' ≡ rest
same_rest n m = cc (n.front, m.front)

pub none_next : {ts rest : Tokens} {kind : Kind} → ts ≡ [] → IsNext ts kind rest → ⊥
none_next is n = let front = n.front in cc

-- ---- whether a list is empty

pub nil_of : {A : Type 0} (xs : List A) → length xs ≡ 0 → xs ≡ []
nil_of [] e = refl
nil_of (x ∷ xs) e = absurd (omega (arith, e))

pub filled : {A : Type 0} (xs : List A) {b : Bool} → b ≡ (length xs == 0) → b ≡ false → 0 < length xs
filled [] e f = let both : true ≡ false = sym e ∙ f in cc
filled (x ∷ xs) e f = omega arith

suc_not_zero : (n : ℕ) → (suc n == 0) ≡ true → ⊥
suc_not_zero n e = grind (arith, nat_tests)

pub emptied : {A : Type 0} (xs : List A) {b : Bool} → b ≡ (length xs == 0) → b ≡ true → length xs ≡ 0
emptied [] e f = refl
emptied (x ∷ xs) e f = absurd (suc_not_zero (length xs) (sym e ∙ f))

-- ---- pairs, and the kinds of first tokens

pub pair_is : {A B : Type 0} (p : A × B) {a : A} {b : B} → p.0 ≡ a → p.1 ≡ b → p ≡ (a, b)
pair_is {A} {B} p {a} {b} x y = ap (λ (a : A). (a, p.1)) x ∙ ap (λ (b : B). (a, b)) y

pub name_next : {ts s : Tokens} {name : List ℕ} → IsName ts name s → IsNext ts k.Word s
name_next {name = name} n = record { token = t.Word name; front = n.front; is = refl }

-- The rules of IMPLICIT are read in one way.
use Rattle.std.proofs.Common.{◌≡◌, ℕ, Bool, true, false, List, ap, sym, ◌∙◌, subst, refl, arith}
use Rattle.f77_tree.specs.declared.form.TypeWord.{TypeWord}
use Rattle.f77_expr.specs.declared.token.Kind.TheVariants as k
use Rattle.f77_expr.specs.Kinds.{Tokens, IsNext}
use Rattle.form_parts.specs.Listed.{Parenthesized}
use Rattle.form_parts.specs.Only.{NotNext, Follows, OnlyPart, NoPart, OnlyFront, NoFront}
use Rattle.form_specification.specs.Specifications.{IsLetter, IsRange, single, both, IsTypeWord, IsRule}
use Rattle.form_parts.proofs.NextToken.{next_shorter, same_rest, pair_is}
use Rattle.form_parts.proofs.Following.{follows_no}

pub not_minus : {slash : Bool} {ts rest : Tokens} → Follows slash ts → IsNext ts k.Minus rest → ⊥
not_minus f n = follows_no (λ e. cc) (λ e. cc) (λ e. cc) (λ e. cc) f n

single_only : {ts s z : Tokens} {a : ℕ} {y : ℕ × ℕ} → OnlyFront IsLetter ts a s → NotNext s k.Minus → IsRange ts y z → (y ≡ (a, a)) × (z ≡ s)
single_only {z = z} o lacks (single {a = b} l is) = let same = o.only b z l in (is ∙ ap (λ (b : ℕ). (b, b)) same.0, same.1)
single_only o lacks (both {rest = rest} {more = after} {a = b} l n m is) =
    let same = o.only b rest l in absurd (lacks.not after (subst (λ w. IsNext w k.Minus after) same.1 n))

pub one_letter : {ts s : Tokens} {a : ℕ} → OnlyFront IsLetter ts a s → NotNext s k.Minus → OnlyPart IsRange false ts (a, a) s
one_letter o lacks = record { part = single o.part refl; shorter = o.shorter; only = λ y z p f. single_only o lacks p }

both_only : {ts rest after s z : Tokens} {a b : ℕ} {y : ℕ × ℕ} → OnlyFront IsLetter ts a rest → IsNext rest k.Minus after → OnlyFront IsLetter after b s → IsRange ts y z → Follows false z → (y ≡ (a, b)) × (z ≡ s)
both_only {after = after} {z = z} o n p (single {a = c} l is) f =
    let same = o.only c z l in absurd (not_minus f (subst (λ w. IsNext w k.Minus after) (sym same.1) n))
both_only {after = after} {z = z} {a = a} o n p (both {rest = rest} {more = more} {a = c} {b = d} l m q is) f =
    let first = o.only c rest l in
    let place : more ≡ after = same_rest n (subst (λ w. IsNext w k.Minus more) first.1 m) in
    let second = p.only d z (subst (λ w. IsLetter w d z) place q) in
    (is ∙ (ap (λ (c : ℕ). (c, d)) first.0 ∙ ap (λ (d : ℕ). (a, d)) second.0), second.1)

pub two_letters : {ts rest after s : Tokens} {a b : ℕ} → OnlyFront IsLetter ts a rest → IsNext rest k.Minus after → OnlyFront IsLetter after b s → OnlyPart IsRange false ts (a, b) s
two_letters o n p = record {
  part = both o.part n p.part refl;
  shorter = omega (arith, o.shorter, next_shorter n, p.shorter);
  only = λ y z q f. both_only o n p q f;
}

no_second_at : {ts rest after z : Tokens} {a : ℕ} {y : ℕ × ℕ} → OnlyFront IsLetter ts a rest → IsNext rest k.Minus after → NoFront IsLetter after → IsRange ts y z → Follows false z → ⊥
no_second_at {after = after} {z = z} o n p (single {a = c} l is) f =
    let same = o.only c z l in not_minus f (subst (λ w. IsNext w k.Minus after) (sym same.1) n)
no_second_at {after = after} {z = z} o n p (both {rest = rest} {more = more} {a = c} {b = d} l m q is) f =
    let first = o.only c rest l in
    let place : more ≡ after = same_rest n (subst (λ w. IsNext w k.Minus more) first.1 m) in
    p.not d z (subst (λ w. IsLetter w d z) place q)

pub no_second_letter : {ts rest after : Tokens} {a : ℕ} → OnlyFront IsLetter ts a rest → IsNext rest k.Minus after → NoFront IsLetter after → NoPart IsRange false ts
no_second_letter o n p = record { not = λ y z q f. no_second_at o n p q f }

-- ---- a type with its letters

rule_only : {ts rest s z : Tokens} {w : TypeWord} {all : List (ℕ × ℕ)} {y : TypeWord × List (ℕ × ℕ)} → OnlyFront IsTypeWord ts w rest → OnlyFront (Parenthesized IsRange) rest all s → IsRule ts y z → (y ≡ (w, all)) × (z ≡ s)
rule_only {z = z} {y = y} o p q =
    let same = o.only y.0 q.rest q.type_is in
    let lists = p.only y.1 z (subst (λ w. Parenthesized IsRange w y.1 z) same.1 q.letters) in
    (pair_is y same.0 lists.0, lists.1)

pub is_rule : {ts rest s : Tokens} {w : TypeWord} {all : List (ℕ × ℕ)} → OnlyFront IsTypeWord ts w rest → OnlyFront (Parenthesized IsRange) rest all s → OnlyPart IsRule true ts (w, all) s
is_rule {rest = rest} o p = record {
  part = record { rest = rest; type_is = o.part; letters = p.part };
  shorter = omega (arith, o.shorter, p.shorter);
  only = λ y z q f. rule_only o p q;
}

pub no_type : {ts : Tokens} → NoFront IsTypeWord ts → NoPart IsRule true ts
no_type o = record { not = λ y z q f. o.not y.0 q.rest q.type_is }

pub no_letters : {ts rest : Tokens} {w : TypeWord} → OnlyFront IsTypeWord ts w rest → NoFront (Parenthesized IsRange) rest → NoPart IsRule true ts
no_letters o p = record { not = λ y z q f. let same = o.only y.0 q.rest q.type_is in p.not y.1 z (subst (λ w. Parenthesized IsRange w y.1 z) same.1 q.letters) }

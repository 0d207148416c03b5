-- What the first byte of a piece excludes.
use Rattle.std.proofs.Common.{◌≡◌, ℕ, Bool, true, false, ◌&&◌, ap, sym, ◌∙◌, refl, arith}
use Rattle.std.proofs.lemmas.Bool.Decides.{nat_tests}
use Rattle.f77_tree.specs.Names.{is_letter, is_word}
use Rattle.f77_expr.specs.declared.token.Kind.TheVariants as k
use Rattle.f77_expr.specs.Kinds.{sign_kind}
use Rattle.f77_expr.specs.Spelling.{is_digit}

pub and_left : (a b : Bool) → (a && b) ≡ true → a ≡ true
and_left true b h = refl
and_left false b h = h

pub and_right : (a b : Bool) → (a && b) ≡ true → b ≡ true
and_right true b h = h
and_right false b h = absurd cc

pub and_both : (a b : Bool) → a ≡ true → b ≡ true → (a && b) ≡ true
and_both a b h g = ap (λ a. a && b) h ∙ g

pub false_true : {b : Bool} → b ≡ false → b ≡ true → ⊥
false_true e f = let no_way : false ≡ true = sym e ∙ f in cc

pub letter_word : (b : ℕ) → is_letter b ≡ true → is_word b ≡ true
letter_word b h = grind (arith, nat_tests)

pub digit_letter : (b : ℕ) → is_digit b ≡ true → is_letter b ≡ true → ⊥
digit_letter b h e = grind (arith, nat_tests)

pub letter_no_sign : (b : ℕ) → is_letter b ≡ true → sign_kind b ≡ k.Other
letter_no_sign b h = grind (arith, nat_tests)

pub digit_no_sign : (b : ℕ) → is_digit b ≡ true → sign_kind b ≡ k.Other
digit_no_sign b h = grind (arith, nat_tests)

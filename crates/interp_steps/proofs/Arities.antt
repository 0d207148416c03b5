-- Intrinsic functions of so many numbers.
use Rattle.std.proofs.Common.{◌≡◌, List, [], ◌∷◌, ℤ, pos, neg_ℤ, int_lt, ◌-ℤ◌, refl, if◌then◌else◌}
use Rattle.std.specs.Int.{is_negative}
use Rattle.run_model.specs.Acts.{Done, Undefined, and_then}
use Rattle.f77_names.specs.declared.intrinsics.Intrinsic.TheVariants.{Abs, Mod, Sign, Dim}
use Rattle.f77_values.specs.Arithmetic.{divided, wrap}
use Rattle.f77_semantics.specs.Values.{absolute, remainder, or_fail, intrinsic}
use Rattle.interp_steps.specs.Numbers.{one, two}

pub abs_is : (xs : List ℤ) → intrinsic Abs xs ≡ and_then (one xs) (λ x. Done (absolute x))
abs_is [] = refl
abs_is (x ∷ []) = refl
abs_is (x ∷ y ∷ zs) = refl

pub mod_is : (xs : List ℤ) → intrinsic Mod xs ≡ and_then (two xs) (λ p. or_fail (Undefined 5) (remainder p.0 p.1 (divided p.0 p.1)))
mod_is [] = refl
mod_is (x ∷ []) = refl
mod_is (x ∷ y ∷ []) = refl
mod_is (x ∷ y ∷ z ∷ zs) = refl

pub sign_is : (xs : List ℤ) → intrinsic Sign xs ≡ and_then (two xs) (λ p. Done (if is_negative p.1 then wrap (neg_ℤ (absolute p.0)) else absolute p.0))
sign_is [] = refl
sign_is (x ∷ []) = refl
sign_is (x ∷ y ∷ []) = refl
sign_is (x ∷ y ∷ z ∷ zs) = refl

pub dim_is : (xs : List ℤ) → intrinsic Dim xs ≡ and_then (two xs) (λ p. Done (if int_lt p.1 p.0 then wrap (p.0 -ℤ p.1) else pos 0))
dim_is [] = refl
dim_is (x ∷ []) = refl
dim_is (x ∷ y ∷ []) = refl
dim_is (x ∷ y ∷ z ∷ zs) = refl

pub ruleset arities = (abs_is, mod_is, sign_is, dim_is)

-- A power with one factor more, and a quotient by -1.
use Rattle.std.proofs.Common.{◌≡◌, ℕ, suc, ◌+◌, ◌/◌, ℤ, pos, negsuc, neg_ℤ, ◌*ℤ◌, int_div, add-one, ap, arith}
use Rattle.f77_values.specs.Arithmetic.{wrap, power}

pub power_more : (x : ℤ) (n : ℕ) → power x (n + 1) ≡ wrap (power x n *ℤ x)
power_more x n = ap (power x) (add-one n)

over-1 : (n : ℕ) → n / 1 ≡ n
over-1 n = omega arith

pub int_div-minus1 : (x : ℤ) → int_div x (negsuc 0) ≡ neg_ℤ x
int_div-minus1 (pos n) = ap (λ m. neg_ℤ (pos m)) (over-1 n)
int_div-minus1 (negsuc n) = ap pos (over-1 (suc n))

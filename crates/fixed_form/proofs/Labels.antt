-- Numbers of few digits.
use Rattle.std.proofs.lemmas.Bool.Decides.{nat_tests}
use Rattle.std.proofs.Common.{◌≡◌, ℕ, zero, suc, ◌+◌, ◌*◌, ◌<◌, ◌≤◌, refl, arith, add-one}
use Rattle.fixed_form.specs.Cards.{with_digit}

-- a power of ten
unfoldable pub ten : ℕ → ℕ
ten zero = 1
ten (suc k) = 10 * ten k

pub ten_more : (k : ℕ) → ten (k + 1) ≡ 10 * ten k
unfolding ten
ten_more k = rw add-one

pub ten_none : ten 0 ≡ 1
unfolding ten
ten_none = refl

pub ten_small : (k : ℕ) → k < 5 → ten k ≤ 10000
unfolding ten
ten_small zero h = omega arith
ten_small (suc zero) h = omega arith
ten_small (suc (suc zero)) h = omega arith
ten_small (suc (suc (suc zero))) h = omega arith
ten_small (suc (suc (suc (suc zero)))) h = omega arith
ten_small (suc (suc (suc (suc (suc k))))) h = absurd (omega (arith, h))

pub ruleset values = (ten_more, ten_none, ten_small)

pub with_digit_small : (n b m : ℕ) → n < m → with_digit n b < 10 * m
with_digit_small n b m h = grind (arith, nat_tests)

-- Numbers that are read from bytes are below a power of 256.
use Rattle.std.proofs.Common.{ℕ, zero, suc, ◌+◌, ◌^◌, ◌<◌, ◌≤◌, arith, lit<}
use Rattle.std.proofs.Math.Nat.{pow-suc, pow-le-pow_right}
use Rattle.elf_file.specs.Numbers.{read}

pub read-below : (n : ℕ) (m : ℕ → ℕ) (a : ℕ) → ((x : ℕ) → m x < 256) → read n m a < 256 ^ n
read-below zero m a h = omega arith
read-below (suc n) m a h = let r = read-below n m (a + 1) h in let b = h a in omega (arith, pow-suc 256 n)

pub read_below_56 : (n : ℕ) (m : ℕ → ℕ) (a : ℕ) → n ≤ 7 → ((x : ℕ) → m x < 256) → read n m a < 2 ^ 56
read_below_56 n m a h b = let r = read-below n m a b in let p : 256 ^ n ≤ 256 ^ 7 = pow-le-pow_right (lit< tt) h in omega (arith, p, r)

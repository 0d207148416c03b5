-- A memory of bytes, and little-endian numbers in it.
use Rattle.std.specs.Prelude.{ℕ, zero, suc, ◌+◌, ◌/◌, ◌%◌, cond, nat_eq}
-- the number in n bytes from a on
pub use Rattle.elf_file.specs.Numbers.{read}

-- the byte at each address
abbrev pub Memory : Type 0
Memory = ℕ → ℕ

abbrev pub put_byte : ℕ → ℕ → Memory → Memory
put_byte a b m x = cond (nat_eq x a) b (m x)

-- the low n bytes of v from a on
abbrev pub write : ℕ → ℕ → ℕ → Memory → Memory
write zero a v m = m
write (suc n) a v m = write n (a + 1) (v / 256) (put_byte a (v % 256) m)

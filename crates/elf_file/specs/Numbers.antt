-- Numbers in bytes, the lowest byte first.
use Rattle.std.specs.Prelude.{ℕ, zero, suc, ◌+◌, ◌*◌, ◌/◌, ◌%◌, List, [], ◌∷◌}

-- the low n bytes of v
abbrev pub le : ℕ → ℕ → List ℕ
le zero v = []
le (suc n) v = v % 256 ∷ le n (v / 256)

-- the number in n bytes of a memory from a on
abbrev pub read : ℕ → (ℕ → ℕ) → ℕ → ℕ
read zero memory a = 0
read (suc n) memory a = memory a + 256 * read n memory (a + 1)

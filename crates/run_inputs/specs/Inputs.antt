-- Integers of 64 bits in two's complement, and inputs of such.
use Rattle.std.specs.Prelude.{◌≡◌, ◌^◌, List, Bool, true, ℤ, pos, negsuc, nat_lt, FitsSigned, ◌↔◌}
use Rattle.std.specs.Int.{w64}
use Rattle.std.specs.List.{AllByRecursion, list_all}

-- from -2 ^ 63 to 2 ^ 63 - 1
abbrev pub IsWord64 : ℤ → Type 0
IsWord64 z = FitsSigned w64 z

abbrev pub AllWord64 : List ℤ → Type 0
AllWord64 zs = AllByRecursion IsWord64 zs

-- the same by tests
abbrev pub is_word64 : ℤ → Bool
is_word64 (pos n) = nat_lt n (2 ^ 63)
is_word64 (negsuc n) = nat_lt n (2 ^ 63)

abbrev pub IntegersAreDecided : Type 0
IntegersAreDecided = (z : ℤ) → is_word64 z ≡ true ↔ IsWord64 z

abbrev pub InputsAreDecided : Type 0
InputsAreDecided = (zs : List ℤ) → list_all is_word64 zs ≡ true ↔ AllWord64 zs

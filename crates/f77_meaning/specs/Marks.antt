-- Marks of cells and of dummies.
use Rattle.std.specs.Prelude.{ℕ, ◌+◌, List, [], ◌∷◌, Bool, false, ◌&&◌, ◌||◌, nat_eq, nat_le, nat_lt}
use Rattle.interp_lower.specs.Routines.{Dimensioned}

abbrev pub is_between : (from length : ℕ) → ℕ → Bool
is_between from length k = nat_le from k && nat_lt k (from + length)

-- whether a dummy array stands at this position
abbrev pub is_dimensioned : List Dimensioned → ℕ → Bool
is_dimensioned [] j = false
is_dimensioned (a ∷ as_) j = nat_eq a.0 j || is_dimensioned as_ j

-- Marks of dummy arrays.
use Rattle.std.proofs.Common.{◌≡◌, ℕ, List, [], ◌∷◌, ◌||◌, nat_eq, map, refl, ap}
use Rattle.f77_semantics.specs.Program.{DummyArray}
use Rattle.f77_semantics.specs.Units.{is_array}
use Rattle.interp_lower.specs.Routines.{dummy_as}
use Rattle.f77_meaning.specs.Marks.{is_dimensioned}

pub dimensioned_is : (as_ : List DummyArray) (j : ℕ) → is_dimensioned (map dummy_as as_) j ≡ is_array as_ j
dimensioned_is [] j = refl
dimensioned_is (a ∷ as_) j = ap (λ b. nat_eq a.dummy j || b) (dimensioned_is as_ j)

-- The items that a unit owns.
use Rattle.std.specs.Prelude.{ℕ, ◌^◌, Bool, false, List, [], ◌∷◌, length, min, nat_lt}
use Rattle.std.specs.Ordering.{is_eq, nat_cmp}
use Rattle.std.specs.Cmp.Lexicographic.{slice_cmp}
use Rattle.f77_tree.specs.declared.unit.Item.{Item}
use Rattle.f77_tree.specs.declared.unit.Item.TheVariants.{Dummy, Local, Common}
use Rattle.f77_tree.specs.declared.unit.Unit.{Unit}
use Rattle.iv_set.specs.Toggles.{either, both}

abbrev pub in_dummies : ℕ → Item → Bool
in_dummies count (Dummy d) = nat_lt d count
in_dummies count (Local k) = false
in_dummies count (Common block k) = false

abbrev pub in_local : ℕ → Item → Bool
in_local size (Dummy d) = false
in_local size (Local k) = nat_lt k size
in_local size (Common block k) = false

-- whether the item is a unit of the block, below the size
abbrev pub in_area : List ℕ → ℕ → Item → Bool
in_area name size (Dummy d) = false
in_area name size (Local k) = false
in_area name size (Common block k) = both (is_eq (slice_cmp nat_cmp name block)) (nat_lt k size)

abbrev pub in_areas : List (List ℕ × ℕ) → Item → Bool
in_areas [] i = false
in_areas (a ∷ rest) i = either (in_area a.0 a.1 i) (in_areas rest i)

-- a dummy by its position, which is below 2^32; a local unit; or a unit of a block that the unit declares
abbrev pub is_own : Unit → List (List ℕ × ℕ) → ℕ → Item → Bool
is_own unit areas local_size i = either (in_dummies (min (length unit.dummies) (2 ^ 32)) i) (either (in_local local_size i) (in_areas areas i))

-- Pairs of items of which one is a dummy: for each dummy, the items that it is paired with but for the dummies before it.
use Rattle.std.specs.Prelude.{◌≡◌, ℕ, Bool, true, false, IsTrue, List, [], ◌∷◌, nat_eq, nat_le, ◌⊎◌}
use Rattle.std.specs.Ordering.{nat_cmp}
use Rattle.f77_tree.specs.declared.unit.Item.{Item}
use Rattle.f77_tree.specs.declared.unit.Item.TheVariants.{Dummy, Local, Common}
use Rattle.rn_lattice.specs.Maps.{value_at, map_leq, IsMap}
use Rattle.iv_set.specs.declared.bound.Bound.{Bound}
use Rattle.iv_set.specs.Toggles.{either, both, first_alone}
use Rattle.iv_set.specs.Places.{between}
use Rattle.iv_set.specs.Sets.{has_item, leq, IsSet}
use Rattle.iv_set.specs.Least.{IsLeast}

-- the items that stand with the dummy
abbrev pub of_dummy : List (ℕ × List Bound) → ℕ → List Bound
of_dummy m d = value_at nat_cmp [] m d

-- whether the first item is a dummy with which the second stands
abbrev pub leads : List (ℕ × List Bound) → Item → Item → Bool
leads m (Dummy d) i = has_item (of_dummy m d) i
leads m (Local k) i = false
leads m (Common name k) i = false

-- whether the two items are a pair, in either order
abbrev pub paired : List (ℕ × List Bound) → Item → Item → Bool
paired m x y = either (leads m x y) (leads m y x)

-- whether the item is no dummy before d
abbrev pub follows : ℕ → Item → Bool
follows d (Dummy e) = nat_le d e
follows d (Local k) = true
follows d (Common name k) = true

abbrev pub is_dummy : ℕ → Item → Bool
is_dummy d (Dummy e) = nat_eq e d
is_dummy d (Local k) = false
is_dummy d (Common name k) = false

-- whether the first item is the dummy and the second lies in the run
abbrev pub adds : ℕ → Item → Item → Item → Item → Bool
adds d from to x y = both (is_dummy d x) (between from to y)

-- whether each pair of the first relation is one of the second
abbrev pub within : List (ℕ × List Bound) → List (ℕ × List Bound) → Bool
within m n = map_leq nat_cmp leq [] m n

-- the dummies rise, each has a set that isn't empty, and each pair stands with the dummy that comes first
pub record IsPairs (m : List (ℕ × List Bound)) : Type 0 where
  pub map : IsMap nat_cmp IsSet [] m
  pub following : (d : ℕ) (i : Item) → IsTrue (has_item (of_dummy m d) i) → IsTrue (follows d i)

-- the set has the members of another, and each item that a pair joins to one of these
pub record IsJoinedBy (m : List (ℕ × List Bound)) (set all : List Bound) : Type 0 where
  pub kept : (i : Item) → IsTrue (has_item set i) → IsTrue (has_item all i)
  pub joined : (i j : Item) → IsTrue (has_item set j) → IsTrue (paired m j i) → IsTrue (has_item all i)
  pub only : (i : Item) → IsTrue (has_item all i) → IsTrue (has_item set i) ⊎ ((j : Item) × IsTrue (has_item set j) × IsTrue (paired m j i))

-- whether the item stands with the dummy in the first relation alone
abbrev pub lacks : List (ℕ × List Bound) → List (ℕ × List Bound) → ℕ → Item → Bool
lacks m n d i = first_alone (has_item (of_dummy m d) i) (has_item (of_dummy n d) i)

-- the first pair, by its dummy and then by the item that stands with it, that the first relation has and the second lacks
pub record IsLeastPair (m n : List (ℕ × List Bound)) (d : ℕ) (i : Item) : Type 0 where
  pub at : IsLeast (lacks m n d) i
  pub before : (q : ℕ) (j : Item) → IsTrue (lacks m n q j) → IsTrue (nat_le d q)

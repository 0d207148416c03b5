-- What the loops through the entries of a relation make, entry by entry.
use Rattle.std.specs.Prelude.{ℕ, Bool, false, List, [], ◌∷◌, nat_le, nat_lt}
use Rattle.std.specs.Ordering.{is_eq, nat_cmp}
use Rattle.f77_tree.specs.declared.unit.Item.{Item}
use Rattle.f77_tree.specs.declared.unit.Item.TheVariants.{Dummy, Local, Common}
use Rattle.iv_set.specs.declared.bound.Bound.{Bound}
use Rattle.iv_set.specs.Toggles.{either, both}
use Rattle.iv_set.specs.Sets.{has_item, meets}
use Rattle.item_maps.specs.Relation.{is_dummy}

-- whether an entry brings the item to those that pairs join to a member of the set
abbrev pub brings : List Bound → ℕ → List Bound → Item → Bool
brings set d with i = either (both (has_item set (Dummy d)) (has_item with i)) (both (is_dummy d i) (meets set with))

abbrev pub any_brings : List Bound → List (ℕ × List Bound) → Item → Bool
any_brings set [] i = false
any_brings set (e ∷ es) i = either (brings set e.0 e.1 i) (any_brings set es i)

-- whether an entry has the item with the dummy
abbrev pub any_at : List (ℕ × List Bound) → ℕ → Item → Bool
any_at [] q i = false
any_at (e ∷ es) q i = either (both (is_eq (nat_cmp q e.0)) (has_item e.1 i)) (any_at es q i)

-- whether an entry has the pair, and both are members of the set
abbrev pub keeps : List Bound → ℕ → List Bound → ℕ → Item → Bool
keeps own d with q i = both (both (is_eq (nat_cmp q d)) (has_item with i)) (both (has_item own (Dummy d)) (has_item own i))

abbrev pub any_keeps : List Bound → List (ℕ × List Bound) → ℕ → Item → Bool
any_keeps own [] q i = false
any_keeps own (e ∷ es) q i = either (keeps own e.0 e.1 q i) (any_keeps own es q i)

-- whether the first item is the dummy, and the second one of the dummies from one to before another
abbrev pub in_dummies : ℕ → ℕ → Item → Bool
in_dummies a k (Dummy q) = both (nat_le a q) (nat_lt q k)
in_dummies a k (Local n) = false
in_dummies a k (Common name n) = false

abbrev pub adds_up_to : ℕ → ℕ → ℕ → Item → Item → Bool
adds_up_to d a k x y = both (is_dummy d x) (in_dummies a k y)

abbrev pub are : ℕ → ℕ → Item → Item → Bool
are d e x y = both (is_dummy d x) (is_dummy e y)

use Rattle.std.proofs.Common.{◌≡◌, ℕ, []}
use Rattle.std.specs.Ordering.{nat_cmp}
use Rattle.f77_tree.specs.declared.unit.Item.{Item}
use Rattle.rn_lattice.specs.Maps.{IsMap}
use Rattle.iv_set.specs.Toggles.{either}
use Rattle.iv_set.specs.Sets.{has_item, IsSet}
use Rattle.item_maps.specs.Relation.{of_dummy}
use Rattle.item_maps.specs.Passes.{any_keeps}
use Rattle.item_maps.proofs.pairs.Pairs.restricted.Given as goal

-- what the entries that are left will give
abbrev pub invariant-loop-dummy : goal.invariant-loop-dummy
invariant-loop-dummy l = record {
  map : IsMap nat_cmp IsSet [] l.map;
  kept : (q : ℕ) (i : Item) → either (has_item (of_dummy l.map q) i) (any_keeps l.own l.dummy-iterator q i) ≡ any_keeps l.own l.self q i;
}

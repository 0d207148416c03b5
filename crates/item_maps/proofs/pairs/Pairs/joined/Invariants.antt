use Rattle.std.proofs.Common.{◌≡◌}
use Rattle.f77_tree.specs.declared.unit.Item.{Item}
use Rattle.iv_set.specs.Toggles.{either}
use Rattle.iv_set.specs.Sets.{has_item}
use Rattle.item_maps.specs.Passes.{any_brings}
use Rattle.item_maps.proofs.pairs.Pairs.joined.Given as goal

-- what the entries that are left will bring
abbrev pub invariant-loop-dummy : goal.invariant-loop-dummy
invariant-loop-dummy l = (i : Item) → either (has_item l.all i) (any_brings l.set l.dummy-iterator i) ≡ either (has_item l.set i) (any_brings l.set l.self i)

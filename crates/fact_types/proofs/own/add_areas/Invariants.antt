use Rattle.std.proofs.Common.{◌≡◌, drop}
use Rattle.f77_tree.specs.declared.unit.Item.{Item}
use Rattle.iv_set.specs.Toggles.{either}
use Rattle.iv_set.specs.Sets.{has_item}
use Rattle.fact_types.specs.Own.{in_areas}
use Rattle.fact_types.proofs.own.add_areas.Given as goal

-- what is still to come
abbrev pub invariant-loop-area : goal.invariant-loop-area
invariant-loop-area l = (i : Item) → either (has_item l.own i) (in_areas (drop l.area-index l.areas) i) ≡ either (has_item l.fn.own i) (in_areas l.areas i)

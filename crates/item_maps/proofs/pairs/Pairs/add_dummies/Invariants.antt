use Rattle.std.proofs.Common.{◌≡◌}
use Rattle.f77_tree.specs.declared.unit.Item.{Item}
use Rattle.iv_set.specs.Toggles.{either}
use Rattle.item_maps.specs.Relation.{paired}
use Rattle.item_maps.specs.Passes.{adds_up_to}
use Rattle.item_maps.proofs.pairs.Pairs.add_dummies.Given as goal

-- the dummies so far are paired
abbrev pub invariant-loop-other : goal.invariant-loop-other
invariant-loop-other l = (x y : Item) → paired l.self x y ≡ either (paired l.fn.self x y) (either (adds_up_to l.dummy l.first l.other x y) (adds_up_to l.dummy l.first l.other y x))

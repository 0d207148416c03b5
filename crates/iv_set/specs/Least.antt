-- The least item that passes a test.
use Rattle.std.specs.Prelude.{Bool, IsTrue, IsFalse}
use Rattle.std.specs.Ordering.{is_gt}
use Rattle.f77_tree.specs.declared.unit.Item.{Item}
use Rattle.iv_set.specs.Places.{cmp, place_of}

pub record IsLeast (test : Item → Bool) (i : Item) : Type 0 where
  pub passes : IsTrue (test i)
  pub least : (j : Item) → IsTrue (test j) → IsFalse (is_gt (cmp (place_of i) (place_of j)))

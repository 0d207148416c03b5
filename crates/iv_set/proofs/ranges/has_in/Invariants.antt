use Rattle.std.proofs.Common.{◌≡◌, drop}
use Rattle.iv_set.specs.Toggles.{after}
use Rattle.iv_set.specs.Places.{cmp, place_of}
use Rattle.iv_set.specs.Sets.{has_item}
use Rattle.iv_set.proofs.ranges.has_in.Given as goal

-- what is still to come
abbrev pub invariant-loop-bound : goal.invariant-loop-bound
invariant-loop-bound l = after cmp l.inside (drop l.bound-index l.bounds) (place_of l.item) ≡ has_item l.bounds l.item

use Rattle.std.proofs.Common.{◌≡◌, drop}
use Rattle.iv_set.specs.Places.{place_of}
use Rattle.item_maps.specs.Steps.{value_in, get}
use Rattle.item_maps.proofs.constants.get_in.Given as goal

-- what is still to come
abbrev pub invariant-loop-step : goal.invariant-loop-step
invariant-loop-step l = value_in l.value (drop l.step-index l.steps) (place_of l.item) ≡ get l.steps l.item

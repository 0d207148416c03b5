use Rattle.std.proofs.Common.{◌≡◌, ◌++◌, drop, false}
use Rattle.item_maps.specs.Walks.{spread}
use Rattle.item_maps.proofs.step.spread.Given as goal

abbrev pub invariant-loop-bound : goal.invariant-loop-bound
invariant-loop-bound l = l.all.items ++ spread l.value l.inside (drop l.bound-index l.bounds) ≡ spread l.value false l.bounds

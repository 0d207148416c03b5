use Rattle.std.proofs.Common.{◌≡◌, ◌++◌, drop, map}
use Rattle.f77_store.specs.Areas.{counted}
use Rattle.f77_store.proofs.areas.all_sized.Given as goal

abbrev pub invariant-loop-name : goal.invariant-loop-name
invariant-loop-name l = l.found ++ map (counted l.totals) (drop l.name-index l.name-items) ≡ map (counted l.totals) l.name-items

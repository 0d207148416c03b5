use Rattle.std.proofs.Common.{◌≡◌, ◌++◌, drop, map}
use Rattle.f77_semantics.specs.Terms.{extent_of}
use Rattle.interp_data.proofs.standing.extents_of.Given as goal

abbrev pub invariant-loop-bound : goal.invariant-loop-bound
invariant-loop-bound l = l.all ++ map (extent_of l.constants) (drop l.bound-index l.bound-items) ≡ map (extent_of l.constants) l.bound-items

use Rattle.std.proofs.Common.{◌≡◌, ◌++◌, drop, map}
use Rattle.check_data.specs.Measures.{side}
use Rattle.check_data.proofs.measures.sides.Given as goal

abbrev pub invariant-loop-bound : goal.invariant-loop-bound
invariant-loop-bound l = l.all ++ map (side l.constants) (drop l.bound-index l.bound-items) ≡ map (side l.constants) l.bound-items

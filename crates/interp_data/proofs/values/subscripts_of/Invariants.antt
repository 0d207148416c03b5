use Rattle.std.proofs.Common.{◌≡◌, ◌++◌, drop, map}
use Rattle.f77_semantics.specs.Data.{number_of}
use Rattle.interp_data.proofs.values.subscripts_of.Given as goal

abbrev pub invariant-loop-e : goal.invariant-loop-e
invariant-loop-e l = l.all ++ map (number_of l.constants) (drop l.e-index l.e-items) ≡ map (number_of l.constants) l.e-items

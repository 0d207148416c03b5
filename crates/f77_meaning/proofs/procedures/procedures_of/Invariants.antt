use Rattle.std.proofs.Common.{map, take}
use Rattle.f77_semantics.specs.Source.{routine}
use Rattle.interp_calls.specs.Procedures.{AreUnits}
use Rattle.f77_meaning.specs.Places.{find_of}
use Rattle.f77_meaning.proofs.procedures.procedures_of.Given as goal

abbrev pub invariant-loop-unit : goal.invariant-loop-unit
invariant-loop-unit l = AreUnits (find_of l.units l.main) l.all.items (map routine (take l.unit-index l.units))

use Rattle.std.proofs.Common.{◌≡◌, drop}
use Rattle.f77_semantics.specs.Source.{main_of}
use Rattle.f77_meaning.proofs.places.main_place.Given as goal

abbrev pub invariant-loop-k : goal.invariant-loop-k
invariant-loop-k l = main_of (drop l.k l.units) ≡ main_of l.units

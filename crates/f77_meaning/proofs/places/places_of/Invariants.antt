use Rattle.std.proofs.Common.{◌≡◌, drop}
use Rattle.indexmap.specs.IndexMap.{get}
use Rattle.f77_values.specs.Tables.{Name, name_eq}
use Rattle.f77_meaning.specs.Places.{place_from, or_else}
use Rattle.f77_meaning.proofs.places.places_of.Given as goal

abbrev pub invariant-loop-at : goal.invariant-loop-at
invariant-loop-at l = (q : Name) → or_else (get name_eq l.places q) (place_from l.at (drop l.at l.units) q) ≡ place_from 0 l.units q

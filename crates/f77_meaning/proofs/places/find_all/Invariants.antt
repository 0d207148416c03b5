use Rattle.std.proofs.Common.{◌≡◌, List, ◌++◌, drop, map}
use Rattle.indexmap.specs.IndexMap.{get}
use Rattle.f77_tree.specs.declared.unit.Unit.{Unit}
use Rattle.f77_values.specs.Tables.{Name, name_eq}
use Rattle.f77_meaning.specs.Places.{place_from, find_of}
use Rattle.f77_meaning.proofs.places.find_all.Given as goal

abbrev pub invariant-loop-name : goal.invariant-loop-name
invariant-loop-name l = (units : List Unit) → ((q : Name) → get name_eq l.places q ≡ place_from 0 units q)
    → l.all.items ++ map (find_of units l.main) (drop l.name-index l.name-items) ≡ map (find_of units l.main) l.name-items

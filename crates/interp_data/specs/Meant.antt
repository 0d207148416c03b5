-- What the names of a unit stand for.
use Rattle.f77_values.specs.Tables.{Name}
use Rattle.f77_semantics.specs.Terms.{Meant}
use Rattle.f77_semantics.specs.Source.{meant_in}
use Rattle.interp_data.specs.declared.lookup.Lookup.{Lookup}

unfoldable pub meant : Lookup → Name → Meant
meant names name = meant_in names.facts names.slots name

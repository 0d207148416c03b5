-- What names have been given, in a table.
use Rattle.std.specs.Prelude.{Bool, false, ◌||◌, [], ◌∷◌, unwrap_or}
use Rattle.f77_values.specs.Tables.{Name, Told, what, with_told}
use Rattle.check_names.specs.declared.attribute.Given.{Given}
use Rattle.check_names.specs.declared.givings.Giving.{Giving}
use Rattle.check_names.specs.Exclusions.{nothing, with_attribute, conflicts}
use Rattle.check_names.specs.Givings.{Givings}

abbrev pub told_to : Name → Told Given → Given
told_to name table = unwrap_or (what table name) nothing

abbrev pub noted : Told Given → Giving → Told Given
noted table g = with_told table g.name (with_attribute (told_to g.name table) g.attribute)

abbrev pub conflicts_with : Told Given → Giving → Bool
conflicts_with table g = conflicts (told_to g.name table) g.attribute

abbrev pub conflict_with : Told Given → Givings → Bool
conflict_with table [] = false
conflict_with table (g ∷ others) = conflicts_with table g || conflict_with (noted table g) others

-- The units of a program that is being written.
use Rattle.std.specs.Prelude.{List, map}
use Rattle.fixed_form.specs.declared.reader.UnitText.{UnitText}
use Rattle.f77_values.specs.Tables.{Name, told}

abbrev pub named : UnitText → Name × UnitText
named u = (u.name, u)

-- A unit takes the place of one with its name that was there before; another stands behind those that are there.
abbrev pub drafted : List UnitText → List UnitText
drafted units = map (λ entry. entry.1) (told (map named units))

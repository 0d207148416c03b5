-- The faults of a unit on names and their attributes.
use Rattle.std.specs.Prelude.{◌≡◌, true}
use Rattle.f77_tree.specs.declared.unit.Unit.{Unit}
use Rattle.f77_names.specs.declared.facts.Facts.{Facts}
use Rattle.f77_names.specs.Roles.{facts}
use Rattle.fault_marks.specs.declared.marks.Mark.{Mark}
use Rattle.fault_marks.specs.Places.{ShowsAt}
use Rattle.check_names.specs.Conflicts.{conflicts_at}
use Rattle.check_names.specs.Untyped.{untyped_at}
use Rattle.check_names.specs.Dummies.{displaces_at}
use Rattle.check_names.specs.LargeArrays.{large_at, most_units}

-- Statement k gives a name what excludes what the name was given.
abbrev pub ShowsConflict : Facts → Unit → Mark → Type 0
ShowsConflict f u mark = ShowsAt u.statements (λ k. conflicts_at f.attributes u k ≡ true) 12 0 mark

-- A name without a type that programs compute with appears first in statement k.
abbrev pub ShowsUntyped : Facts → Unit → Mark → Type 0
ShowsUntyped f u mark = ShowsAt u.statements (λ k. untyped_at f u k ≡ true) 13 0 mark

-- Statement k puts a dummy where none may stand.
abbrev pub ShowsDisplaced : Facts → Unit → Mark → Type 0
ShowsDisplaced f u mark = ShowsAt u.statements (λ k. displaces_at f.attributes u k ≡ true) 24 0 mark

-- Statement k declares an array that is too large.
abbrev pub ShowsLarge : Facts → Unit → Mark → Type 0
ShowsLarge f u mark = ShowsAt u.statements (λ k. large_at f.attributes u k ≡ true) 37 most_units mark

pub data FaultsUnder (f : Facts) (u : Unit) (mark : Mark) : Type 0 where
  conflict : ShowsConflict f u mark → FaultsUnder f u mark
  untyped : ShowsUntyped f u mark → FaultsUnder f u mark
  displaced : ShowsDisplaced f u mark → FaultsUnder f u mark
  large : ShowsLarge f u mark → FaultsUnder f u mark

abbrev pub NameFaults : Unit → Mark → Type 0
NameFaults u mark = FaultsUnder (facts u) u mark

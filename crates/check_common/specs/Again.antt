-- A storage unit of a COMMON block gets an initial value in one program unit at most (ANSI X3.9-1978, sections 9.1 and 16.2).
use Rattle.std.specs.Prelude.{◌≡◌, ℕ, ◌+◌, ◌<◌, ◌≤◌, min, max, Bool, true, ◌&&◌, nat_lt, List, Option, Some, None}
use Rattle.std.specs.List.{Contains}
use Rattle.f77_values.specs.Tables.{name_eq}
use Rattle.check_common.specs.declared.runs.Run.{Run}
use Rattle.check_common.specs.declared.initials.Initial.{Initial}
use Rattle.check_common.specs.declared.again.Again.{Again}

-- the unit behind the last one of a run
abbrev pub end_of : Run → ℕ
end_of r = r.from + r.size

-- A storage unit is in both.
abbrev pub overlap : Run → Run → Bool
overlap a b = name_eq a.block b.block && nat_lt (max a.from b.from) (min (end_of a) (end_of b))

abbrev pub mark_of : Initial → Again
mark_of x = record { place = x.unit; line = x.line }

-- A statement initialises what one of an earlier unit does.
pub record IsAgain (all : List Initial) (again : Again) : Type 0 where
  pub earlier : Initial
  pub earlier_is : Contains all earlier
  pub later : Initial
  pub later_is : Contains all later
  pub order : earlier.unit < later.unit
  pub shared : overlap earlier.run later.run ≡ true
  pub told : again ≡ mark_of later

-- the first of them by unit, and then by line
pub record IsFirstAgain (all : List Initial) (again : Again) : Type 0 where
  pub initialises : IsAgain all again
  pub first_unit : (other : Again) → IsAgain all other → again.place ≤ other.place
  pub first_line : (other : Again) → IsAgain all other → other.place ≡ again.place → again.line ≤ other.line

-- the first of them, where there is one
abbrev pub FirstAgain : List Initial → Option Again → Type 0
FirstAgain all None = (again : Again) → IsAgain all again → ⊥
FirstAgain all (Some again) = IsFirstAgain all again

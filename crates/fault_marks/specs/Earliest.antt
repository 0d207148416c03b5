-- The first of faults that were found one by one.
use Rattle.std.specs.Prelude.{ℕ, Bool, if◌then◌else◌, Some, None}
use Rattle.std.specs.declared.option.Option.{Option}
use Rattle.fault_marks.specs.declared.marks.Mark.{Mark}
use Rattle.fault_marks.specs.Marks.{comes_first, IsFirst}

abbrev pub first_of : Option Mark → Option Mark → Option Mark
first_of None b = b
first_of (Some x) None = Some x
first_of (Some x) (Some y) = if comes_first x y then Some x else Some y

abbrev pub mark_if : Bool → ℕ → ℕ → ℕ → Option Mark
mark_if holds line number limit = if holds then Some (record { line = line; number = number; limit = limit }) else None

-- the first of those that show, where there is one
abbrev pub Earliest : (Mark → Type 0) → Option Mark → Type 0
Earliest Shows None = (mark : Mark) → Shows mark → ⊥
Earliest Shows (Some mark) = IsFirst Shows mark

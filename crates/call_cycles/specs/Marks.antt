-- Faults of a program, and which of several comes first.
use Rattle.std.specs.Prelude.{◌≡◌, ℕ, suc, Bool, true, ◌==◌, nat_lt, nat_le, if◌then◌else◌, Option, Some, None}
use Rattle.call_cycles.specs.declared.marks.ProgramMark.{ProgramMark}

abbrev pub mark_at : ℕ → ℕ → Option ℕ → ℕ → ProgramMark
mark_at number limit unit line = record { number = number; limit = limit; unit = unit; line = line }

-- A fault without a unit stands before those with one.
abbrev pub unit_place : Option ℕ → ℕ
unit_place None = 0
unit_place (Some k) = suc k

-- by the one number, and where it is the same by what is left
abbrev pub ordered : ℕ → ℕ → Bool → Bool
ordered x y others = if x == y then others else nat_lt x y

-- By number, then by unit, then by line. Faults 37 stand in the order of their limits: those of units, tokens, weight and storage.
abbrev pub comes_first : ProgramMark → ProgramMark → Bool
comes_first a b = ordered a.number b.number (ordered a.limit b.limit (ordered (unit_place a.unit) (unit_place b.unit) (nat_le a.line b.line)))

-- the first of those that show
pub record IsFirst (Shows : ProgramMark → Type 0) (mark : ProgramMark) : Type 0 where
  pub shows : Shows mark
  pub first : (other : ProgramMark) → Shows other → comes_first mark other ≡ true

-- the first of those that show, where there is one
abbrev pub Earliest : (ProgramMark → Type 0) → Option ProgramMark → Type 0
Earliest Shows None = (mark : ProgramMark) → Shows mark → ⊥
Earliest Shows (Some mark) = IsFirst Shows mark

abbrev pub first_of : Option ProgramMark → Option ProgramMark → Option ProgramMark
first_of None b = b
first_of (Some x) None = Some x
first_of (Some x) (Some y) = if comes_first x y then Some x else Some y

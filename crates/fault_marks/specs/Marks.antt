-- Which of several faults of a unit comes first.
use Rattle.std.specs.Prelude.{◌≡◌, Bool, true, ◌==◌, nat_lt, nat_le, if◌then◌else◌}
use Rattle.fault_marks.specs.declared.marks.Mark.{Mark}

-- By line, then by number. Of two faults 37 on one line that of the greater limit comes first.
abbrev pub comes_first : Mark → Mark → Bool
comes_first a b = if a.line == b.line then (if a.number == b.number then nat_le b.limit a.limit else nat_lt a.number b.number) else nat_lt a.line b.line

-- the first of those that show
pub record IsFirst (Shows : Mark → Type 0) (mark : Mark) : Type 0 where
  pub shows : Shows mark
  pub first : (other : Mark) → Shows other → comes_first mark other ≡ true

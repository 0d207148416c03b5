-- The faults of a unit in its expressions and targets.
use Rattle.std.specs.Prelude.{◌≡◌, ℕ, Bool, true, List, Some, option_map, take, slice_get}
use Rattle.f77_tree.specs.declared.unit.Stmt.{Stmt}
use Rattle.f77_tree.specs.declared.unit.Unit.{Unit as SourceUnit}
use Rattle.f77_names.specs.declared.facts.Facts.{Facts}
use Rattle.f77_values.specs.Constants.{constants}
use Rattle.f77_names.specs.Roles.{facts}
use Rattle.fault_marks.specs.declared.marks.Mark.{Mark}
use Rattle.fault_marks.specs.Places.{ShowsAt}
use Rattle.check_types.specs.declared.breaks.Rule.{Rule}
use Rattle.check_types.specs.declared.breaks.Rule.TheVariants.{Types, Subscripts, Scalars, Targets}
use Rattle.check_types.specs.Breaks.{form_breaks}
use Rattle.check_types.specs.Overreaching.{overreaches}

abbrev pub statement_breaks : Facts → Rule → Stmt → Bool
statement_breaks f rule s = form_breaks f f.constants rule s.form

-- the statement at this place passes the test
abbrev pub IsAt : List Stmt → (Stmt → Bool) → ℕ → Type 0
IsAt statements test k = option_map test (slice_get statements k) ≡ Some true

-- The statement at this place breaks the rule under the facts of the unit.
abbrev pub BreaksAt : Facts → List Stmt → Rule → ℕ → Type 0
BreaksAt f statements rule k = IsAt statements (statement_breaks f rule) k

-- The statement at this place has an exponent that is wrong under the named constants of the statements before it.
abbrev pub OverreachesAt : Facts → List Stmt → ℕ → Type 0
OverreachesAt f statements k = IsAt statements (overreaches f (constants (take k statements))) k

pub data TypeFaults (u : SourceUnit) (mark : Mark) : Type 0 where
  wrong_type : ShowsAt u.statements (BreaksAt (facts u) u.statements Types) 19 0 mark → TypeFaults u mark
  wrong_subscripts : ShowsAt u.statements (BreaksAt (facts u) u.statements Subscripts) 20 0 mark → TypeFaults u mark
  no_scalar : ShowsAt u.statements (BreaksAt (facts u) u.statements Scalars) 21 0 mark → TypeFaults u mark
  no_target : ShowsAt u.statements (BreaksAt (facts u) u.statements Targets) 25 0 mark → TypeFaults u mark
  wrong_exponent : ShowsAt u.statements (OverreachesAt (facts u) u.statements) 26 0 mark → TypeFaults u mark

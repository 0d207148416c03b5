-- The faults of a unit in DATA.
use Rattle.std.specs.Prelude.{ℕ}
use Rattle.f77_tree.specs.declared.unit.Unit.{Unit}
use Rattle.f77_names.specs.Roles.{facts}
use Rattle.fault_marks.specs.declared.marks.Mark.{Mark}
use Rattle.fault_marks.specs.Places.{ShowsAt}
use Rattle.check_constants.specs.Defined.{nothing, with_statement}
use Rattle.check_constants.specs.Faults.{in_commons}
use Rattle.check_constants.specs.Passes.{HoldsAt}
use Rattle.check_data.specs.DataFaults.{statement_wrong}
use Rattle.check_data.specs.DataTwice.{past_with, statement_repeats, beginning}
use Rattle.check_data.specs.Measures.{measures}

-- Statement k of DATA isn't right by itself.
abbrev pub DataWrong : Unit → ℕ → Type 0
DataWrong u k = HoldsAt with_statement (statement_wrong u.kind (facts u) (in_commons u) (measures u.statements)) nothing u.statements k

-- Statement k of DATA initialises a unit that was initialised before, or twice itself.
abbrev pub InitialisesTwice : Unit → ℕ → Type 0
InitialisesTwice u k = HoldsAt past_with statement_repeats beginning u.statements k

-- A statement shows one of them.
pub data DataFaults (u : Unit) (mark : Mark) : Type 0 where
  data_wrong : ShowsAt u.statements (DataWrong u) 23 0 mark → DataFaults u mark
  initialises_twice : ShowsAt u.statements (InitialisesTwice u) 23 0 mark → DataFaults u mark

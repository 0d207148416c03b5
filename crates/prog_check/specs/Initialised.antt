-- A storage unit of a COMMON block is initialised in one unit of the program at most (ANSI X3.9-1978, sections 9.1 and 16.2).
use Rattle.std.specs.Prelude.{◌≡◌, List, Some}
use Rattle.f77_tree.specs.declared.unit.Unit.{Unit}
use Rattle.check_common.specs.declared.again.Again.{Again}
use Rattle.check_common.specs.Again.{IsAgain}
use Rattle.check_common.specs.Initials.{initials}
use Rattle.call_cycles.specs.declared.marks.ProgramMark.{ProgramMark}
use Rattle.call_cycles.specs.Marks.{mark_at}

abbrev pub mark_of : Again → ProgramMark
mark_of again = mark_at 36 0 (Some again.place) again.line

-- at a statement of DATA that initialises what an earlier unit does
pub record IsInitialisedAgain (units : List Unit) (mark : ProgramMark) : Type 0 where
  pub again : Again
  pub initialises : IsAgain (initials units) again
  pub mark_is : mark ≡ mark_of again

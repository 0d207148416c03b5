-- The faults of a program.
use Rattle.std.specs.Prelude.{◌≡◌, ℕ, List, Option, Some, None, option_map, ⊤}
use Rattle.std.specs.List.{slice_get}
use Rattle.f77_tree.specs.declared.unit.Unit.{Unit}
use Rattle.f77_values.specs.Tables.{Name}
use Rattle.f77_tree.specs.declared.fault.SourceFault.{SourceFault}
use Rattle.f77_tree.specs.declared.fault.Refused.{Refused}
use Rattle.f77_tree.specs.declared.fault.Refused.TheVariants.{Fault, OutOfMemory}
use Rattle.call_cycles.specs.declared.marks.ProgramMark.{ProgramMark}
use Rattle.prog_check.specs.declared.checks.Check.{Check}
use Rattle.call_cycles.specs.Marks.{IsFirst}
use Rattle.prog_check.specs.Shown.{TextShows}
use Rattle.prog_check.specs.Mains.{LacksMain, IsLaterMain}
use Rattle.prog_check.specs.Limits.{HasManyUnits, Passes, HasMuchStorage, measured, most_tokens, most_weight}
use Rattle.prog_check.specs.declared.limits.Measure.TheVariants.{Tokens, Weight}
use Rattle.call_cycles.specs.Cycles.{HasCycle}
use Rattle.prog_check.specs.Initialised.{IsInitialisedAgain}

-- a main program that lacks, or is there twice
pub data MainFaults (units : List Unit) (mark : ProgramMark) : Type 0 where
  no_main : LacksMain units mark → MainFaults units mark
  two_mains : IsLaterMain units mark → MainFaults units mark

-- names that units and blocks share, sites, and dummies that stand for procedures
pub data TextFaults (units : List Unit) (mark : ProgramMark) : Type 0 where
  text : (c : Check) → TextShows units c mark → TextFaults units mark

pub data LimitFaults (units : List Unit) (mark : ProgramMark) : Type 0 where
  many_units : HasManyUnits units mark → LimitFaults units mark
  many_tokens : Passes (measured Tokens) most_tokens units mark → LimitFaults units mark
  much_weight : Passes (measured Weight) most_weight units mark → LimitFaults units mark
  much_storage : HasMuchStorage units mark → LimitFaults units mark

-- the faults of texts, and of the calls that they make
pub data CallFaults (units : List Unit) (mark : ProgramMark) : Type 0 where
  by_text : TextFaults units mark → CallFaults units mark
  by_cycle : HasCycle units mark → CallFaults units mark

-- any fault of a program, 27 to 37
pub data ProgramShows (units : List Unit) (mark : ProgramMark) : Type 0 where
  mains : MainFaults units mark → ProgramShows units mark
  calls : CallFaults units mark → ProgramShows units mark
  initialised : IsInitialisedAgain units mark → ProgramShows units mark
  limits : LimitFaults units mark → ProgramShows units mark

abbrev pub name_at : List Unit → Option ℕ → Option Name
name_at units None = None
name_at units (Some place) = option_map (λ u. u.name) (slice_get units place)

abbrev pub fault_of : List Unit → ProgramMark → SourceFault
fault_of units mark = record { number = mark.number; place = record { unit = name_at units mark.unit; line = mark.line }; limit = mark.limit }

-- the first fault of the program
pub record IsProgramFault (fault : SourceFault) (units : List Unit) : Type 0 where
  pub mark : ProgramMark
  pub first : IsFirst (ProgramShows units) mark
  pub told : fault ≡ fault_of units mark

-- no fault of the program
pub record IsAccepted (units : List Unit) : Type 0 where
  pub none : (mark : ProgramMark) → ProgramShows units mark → ⊥

-- the cause of a refusal
abbrev pub Explains : Refused → List Unit → Type 0
Explains (Fault fault) units = IsProgramFault fault units
Explains OutOfMemory units = ⊤

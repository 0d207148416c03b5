-- Which lists of units are a program, and the first fault of a list that is none.
use Rattle.std.specs.Prelude.{◌≡◌, List, ◌∷◌, ◌++◌}
use Rattle.std.specs.List.{AllZip}
use Rattle.f77_tree.specs.declared.fault.SourceFault.{SourceFault}
use Rattle.f77_tree.specs.declared.fault.Refused.{Refused}
use Rattle.f77_tree.specs.declared.fault.Refused.TheVariants.{Fault, OutOfMemory as Starved}
use Rattle.f77_tree.specs.declared.unit.Unit.{Unit as SourceUnit}
use Rattle.fixed_form.specs.declared.reader.UnitText.{UnitText}
use Rattle.f77_parse.specs.Parsed as parsed
use Rattle.f77_parse.specs.UnitFaults as text
use Rattle.f77_check.specs.UnitFaults as checked
use Rattle.prog_check.specs.ProgramFaults as program

-- a unit without a fault of its own, and its tree
pub record IsAccepted (u : UnitText) (unit : SourceUnit) : Type 0 where
  pub tree : parsed.IsUnit u unit
  pub faultless : parsed.IsFaultless u
  pub sound : checked.IsSound unit

-- The units are a program with these trees: no unit has a fault of its own, and the program has none.
pub record Accepted (units : List UnitText) (trees : List SourceUnit) : Type 0 where
  pub each : AllZip IsAccepted units trees
  pub whole : program.IsAccepted trees

-- the first fault of a unit: that of a statement by itself or in its place, else that of the unit's tree
pub data IsUnitFault (fault : SourceFault) (u : UnitText) : Type 0 where
  of_text : text.IsUnitFault fault u → IsUnitFault fault u
  of_tree : (unit : SourceUnit) → parsed.IsUnit u unit → parsed.IsFaultless u → checked.IsUnitFault fault unit → IsUnitFault fault u

-- the fault of the first unit that has one
pub record IsFaultAmong (fault : SourceFault) (units : List UnitText) : Type 0 where
  pub before : List UnitText
  pub unit : UnitText
  pub behind : List UnitText
  pub cut : units ≡ before ++ unit ∷ behind
  pub trees : List SourceUnit
  pub accepted : AllZip IsAccepted before trees
  pub first : IsUnitFault fault unit

-- The first fault of units: that of the first unit that has one, else that of the program.
pub data IsFirstFault (fault : SourceFault) (units : List UnitText) : Type 0 where
  of_unit : IsFaultAmong fault units → IsFirstFault fault units
  of_program : (trees : List SourceUnit) → AllZip IsAccepted units trees → program.IsProgramFault fault trees → IsFirstFault fault units

-- the cause of a refusal
abbrev pub Explains : Refused → List UnitText → Type 0
Explains (Fault fault) units = IsFirstFault fault units
Explains Starved units = Unit {0}

-- What is found in one of the units.
use Rattle.std.specs.Prelude.{◌≡◌, List, [], ◌∷◌, ◌++◌, Some, None}
use Rattle.std.specs.List.{All, AllZip}
use Rattle.std.specs.declared.option.Option.{Option}
use Rattle.f77_tree.specs.declared.fault.SourceFault.{SourceFault}
use Rattle.fixed_form.specs.declared.reader.Line.{Line}
use Rattle.fixed_form.specs.declared.reader.UnitText.{UnitText}
use Rattle.thin_form.specs.declared.statement.Statement.{Statement}
use Rattle.thin_form.specs.Lacks.{Lacks}
use Rattle.thin_form.specs.Programs.{IsProgram, IsPlainOrEnd}
use Rattle.thin_text.specs.declared.thin.Thin.{Thin}
use Rattle.thin_text.specs.declared.thin.Thin.TheVariants.{Program, Broken, Nothing}
use Rattle.thin_text.specs.declared.thin.Part.{Part}
use Rattle.thin_text.specs.declared.thin.Part.TheVariants.{Body, Faulty}
use Rattle.thin_text.specs.Thin.{Standing, standing, IsThinLine, IsThin, IsThinFault, fault_at}

-- the thin statement that a statement is, where it is one
abbrev pub KnowsLine : Standing → Option Statement → Type 0
KnowsLine at None = Lacks (IsThinLine at)
KnowsLine at (Some statement) = IsThinLine at statement

-- the first statement of the unit that isn't thin
pub record IsUnitFault (fault : SourceFault) (unit : UnitText) : Type 0 where
  pub before : List Standing
  pub first : Standing
  pub after : List Standing
  pub cut : standing unit.statements ≡ before ++ first ∷ after
  pub body : List Statement
  pub thin : AllZip IsThinLine before body
  pub not : Lacks (IsThinLine first)
  pub told : fault ≡ fault_at unit.name first.line

abbrev pub TellsUnit : Part → UnitText → Type 0
TellsUnit (Body body) unit = AllZip IsThinLine (standing unit.statements) body
TellsUnit (Faulty fault) unit = IsUnitFault fault unit

abbrev pub IsPlainPart : Part → Type 0
IsPlainPart (Body body) = All IsPlainOrEnd body
IsPlainPart (Faulty fault) = Unit {0}

-- the fault at the first statement of a unit
pub record IsFirstFault (fault : SourceFault) (unit : UnitText) : Type 0 where
  pub first : Line
  pub behind : List Line
  pub cut : unit.statements ≡ first ∷ behind
  pub told : fault ≡ fault_at unit.name first

-- what thin texts are
abbrev pub Tells : Thin → List UnitText → Type 0
Tells (Program body) units = IsThin units body × IsProgram body
Tells (Broken fault) units = IsThinFault fault units
Tells Nothing units = units ≡ []

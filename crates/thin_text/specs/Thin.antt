-- Which units of a text are a thin program, and which statement is the first that isn't one of its forms.
use Rattle.std.specs.Prelude.{◌≡◌, ℕ, Bool, true, false, List, [], ◌∷◌, ◌++◌, length, map, sum_by, Some}
use Rattle.std.specs.List.{All, AllZip}
use Rattle.f77_tree.specs.declared.fault.SourceFault.{SourceFault}
use Rattle.f77_tree.specs.declared.form.Form.{Form}
use Rattle.fixed_form.specs.declared.reader.Line.{Line}
use Rattle.fixed_form.specs.declared.reader.UnitText.{UnitText}
use Rattle.f77_parse.specs.Statements.{HasFormAt}
use Rattle.thin_form.specs.declared.statement.Statement.{Statement}
use Rattle.thin_form.specs.Forms.{IsStatementOf}

-- a statement of a unit with those behind it
pub record Standing : Type 0 where
  pub line : Line
  pub behind : List Line

abbrev pub standing : List Line → List Standing
standing [] = []
standing (line ∷ behind) = record { line = line; behind = behind } ∷ standing behind

-- a statement without a label, whose text has one of the forms
pub record IsThinLine (at : Standing) (statement : Statement) : Type 0 where
  pub unlabelled : at.line.label ≡ 0
  pub form : Form
  pub has : HasFormAt at.behind at.line.text form
  pub thin : IsStatementOf form statement

-- The units are one unit with these statements.
pub record IsThin (units : List UnitText) (body : List Statement) : Type 0 where
  pub unit : UnitText
  pub alone : units ≡ unit ∷ []
  pub statements : AllZip IsThinLine (standing unit.statements) body

-- a statement of some units: the name of its unit, and whether that is the first
pub record Placed : Type 0 where
  pub unit : List ℕ
  pub opening : Bool
  pub at : Standing

abbrev pub placed_in : Bool → UnitText → List Placed
placed_in opening unit = map (λ s. record { unit = unit.name; opening = opening; at = s }) (standing unit.statements)

unfoldable pub placed_from : Bool → List UnitText → List Placed
placed_from opening [] = []
placed_from opening (unit ∷ units) = placed_in opening unit ++ placed_from false units

-- all statements of the units, in their order
abbrev pub placed : List UnitText → List Placed
placed units = placed_from true units

-- A statement is thin in its place where it stands in the first unit and is of one of the forms.
pub record IsThinPlaced (p : Placed) : Type 0 where
  pub opening : p.opening ≡ true
  pub statement : Statement
  pub thin : IsThinLine p.at statement

-- fault 7 at a statement of the unit of this name
abbrev pub fault_at : List ℕ → Line → SourceFault
fault_at unit at = record { number = 7; place = record { unit = Some unit; line = at.line }; limit = 0 }

-- fault 7 at the first statement that isn't thin in its place
pub record IsThinFault (fault : SourceFault) (units : List UnitText) : Type 0 where
  pub before : List Placed
  pub first : Placed
  pub after : List Placed
  pub cut : placed units ≡ before ++ first ∷ after
  pub thin : All IsThinPlaced before
  pub not : IsThinPlaced first → ⊥
  pub told : fault ≡ fault_at first.unit first.at.line

-- the number of bytes of all statement texts
abbrev pub unit_bytes : UnitText → ℕ
unit_bytes u = sum_by (λ line. length line.text) u.statements

unfoldable pub text_bytes : List UnitText → ℕ
text_bytes = sum_by unit_bytes

-- What is known of units that a text gave, and what the names of a unit that passed its checks stand for.
use Rattle.std.specs.Prelude.{◌≡◌, ℕ, ◌-◌, ◌≤◌, true, false, ◌&&◌, List, Some, length, take, slice_get}
use Rattle.std.specs.List.{list_any}
use Rattle.f77_tree.specs.declared.form.Form.{out-Form}
use Rattle.f77_tree.specs.declared.form.Form.TheOpen.{Form-F}
use Rattle.f77_tree.specs.declared.unit.Stmt.{Stmt}
use Rattle.f77_tree.specs.declared.unit.Unit.{Unit as SourceUnit}
use Rattle.f77_tree.specs.declared.unit.UnitKind.TheVariants as kind
use Rattle.f77_tree.specs.declared.unit.Value.{Value}
use Rattle.f77_values.specs.Tables.{Name, what}
use Rattle.f77_values.specs.Constants.{constants}
use Rattle.f77_names.specs.Occurrences.{in_statement}
use Rattle.f77_names.specs.Roles.{facts}
use Rattle.f77_semantics.specs.Terms as names
use Rattle.f77_semantics.specs.Effects.{EntryOk}
use Rattle.f77_semantics.specs.Source.{is_main, routine}
use Rattle.f77_check.specs.UnitFaults.{IsSound}
use Rattle.prog_texts.specs.Mentions.{mentions}
use Rattle.sound_units.specs.Checked.{passing, NameFits, StandsForVariable}
use Rattle.sound_units.specs.Sites.{Each}
use Rattle.sound_units.specs.Texts.{form_has_text, returns_in, guards_action}
use Rattle.sound_units.specs.Units.{meant_of, effects}

-- A statement as a text gives it: literals are items of PRINT, RETURN stands in subprograms, and a logical IF has an action.
pub record IsStatementOf (u : SourceUnit) (s : Stmt) : Type 0 where
  pub texts : form_has_text s.form ≡ false
  pub returns : (is_main u.kind && returns_in s.form) ≡ false
  pub guards : guards_action (out-Form s.form) ≡ true

-- A unit as a text gives it: its last statement is END, and it has at most 63 dummy arguments.
pub record IsTextOf (u : SourceUnit) : Type 0 where
  pub last : Stmt
  pub stands : slice_get u.statements (length u.statements - 1) ≡ Some last
  pub end : out-Form last.form ≡ Form-F.End
  pub dummies : length u.dummies ≤ 63
  pub each : (k : ℕ) (s : Stmt) → slice_get u.statements k ≡ Some s → IsStatementOf u s

-- No procedure is passed, referenced or called as a dummy (fault 35).
abbrev pub PassesNoProcedure : SourceUnit → Type 0
PassesNoProcedure u = list_any passing (mentions u) ≡ false

-- Names stand for what their roles say: a name in a statement stands for a variable, an array, a constant, an intrinsic or a function
-- with a type, a named constant that is known at a statement has the value that it has there, a function's name stands for a variable,
-- and the bounds of dummy arrays are terms.
pub record NamesFit (u : SourceUnit) : Type 0 where
  pub each : (k : ℕ) (s : Stmt) → slice_get u.statements k ≡ Some s → Each (NameFits (facts u) (meant_of u) (effects u)) (in_statement s)
  pub values : (k : ℕ) (name : Name) (v : Value) → what (constants (take k u.statements)) name ≡ Some v → meant_of u name ≡ names.Constant v
  pub function : u.kind ≡ kind.Function → StandsForVariable (facts u) (meant_of u) (effects u) u.name
  pub entry : EntryOk (effects u) (routine u).dummy_arrays

-- A unit that a text gave and that passed its checks.
pub record IsGood (u : SourceUnit) : Type 0 where
  pub sound : IsSound u
  pub text : IsTextOf u

abbrev pub AllAreGood : List SourceUnit → Type 0
AllAreGood units = (k : ℕ) (u : SourceUnit) → slice_get units k ≡ Some u → IsGood u

-- The units of a program have different names.
abbrev pub NamesDiffer : List SourceUnit → Type 0
NamesDiffer units = (i j : ℕ) (u v : SourceUnit) → slice_get units i ≡ Some u → slice_get units j ≡ Some v → u.name ≡ v.name → i ≡ j

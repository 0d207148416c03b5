-- Statements of a unit by their texts and their forms.
use Rattle.std.specs.Prelude.{◌≡◌, ℕ, ◌≤◌, Bool, true, false, List, [], ◌∷◌, ◌++◌, codes, length}
use Rattle.f77_tree.specs.declared.form.Form.{Form, fold-Form, out-Form}
use Rattle.f77_tree.specs.declared.form.Form.TheOpen.{Form-F}
use Rattle.f77_tree.specs.declared.form.Form.TheVariants as f
use Rattle.f77_tree.specs.declared.form.TypeWord.{TypeWord}
use Rattle.f77_tree.specs.declared.unit.UnitKind.{UnitKind}
use Rattle.f77_tree.specs.declared.unit.UnitKind.TheVariants as unit
use Rattle.fixed_form.specs.declared.reader.Line.{Line}
use Rattle.fixed_form.specs.declared.reader.UnitText.{UnitText}
use Rattle.std.specs.declared.option.Option.{Option}
use Rattle.f77_forms.specs.Forms.{HasForm}
use Rattle.f77_parse.specs.declared.class.Class.{Class}
use Rattle.f77_parse.specs.declared.class.Class.TheVariants as class

-- a text that has a form, with these statements behind it: END has its form only as the last
pub record HasFormAt (behind : List Line) (text : List ℕ) (form : Form) : Type 0 where
  pub has : HasForm text form
  pub ends : form ≡ f.End → behind ≡ []

-- The last statement of the unit is END.
pub record EndsUnit (u : UnitText) : Type 0 where
  pub front : List Line
  pub last : Line
  pub cut : u.statements ≡ front ++ last ∷ []
  pub end : last.text ≡ codes "END"

-- Twenty lines of 66 columns hold the text of a statement.
abbrev pub IsShortText : Line → Type 0
IsShortText line = length line.text ≤ 1320

-- the kind of the unit and its dummies, by the first statement where that is a head
pub data HasHead (lines : List Line) (kind : UnitKind) (dummies : List (List ℕ)) : Type 0 where
  headed : (first : Line) (rest : List Line) (word : Option TypeWord) (name : List ℕ) → lines ≡ first ∷ rest → HasForm first.text (f.Head kind word name dummies) → HasHead lines kind dummies
  headless : ((first : Line) (rest : List Line) (k : UnitKind) (word : Option TypeWord) (name : List ℕ) (names : List (List ℕ)) → lines ≡ first ∷ rest → HasForm first.text (f.Head k word name names) → ⊥) →
      kind ≡ unit.Main → dummies ≡ [] → HasHead lines kind dummies

-- ---- the classes of forms for their order

abbrev pub class_at : Form-F Form → Class
class_at (Form-F.Head kind word name dummies) = class.Head
class_at (Form-F.Implicit rules) = class.Implicit
class_at Form-F.ImplicitNone = class.Implicit
class_at (Form-F.Parameter all) = class.Parameter
class_at (Form-F.DataRuns runs) = class.Data
class_at (Form-F.External names) = class.Procedures
class_at (Form-F.Intrinsic names) = class.Procedures
class_at (Form-F.Typed ty all) = class.Declaration
class_at (Form-F.Dimension all) = class.Declaration
class_at (Form-F.Common blocks) = class.Declaration
class_at (Form-F.Save names blocks) = class.Declaration
class_at Form-F.End = class.End
class_at _ = class.Executable

abbrev pub class_of : Form → Class
class_of form = class_at (out-Form form)

-- RETURN, by itself or in a logical IF
abbrev pub return_step : Form-F Bool → Bool
return_step Form-F.Return = true
return_step (Form-F.LogicalIf test inner) = inner
return_step _ = false

abbrev pub has_return : Form → Bool
has_return = fold-Form Bool return_step

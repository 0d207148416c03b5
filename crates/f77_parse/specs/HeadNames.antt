-- The name of a unit and the name in its head, which two crates read from the same text.
use Rattle.std.specs.Prelude.{◌≡◌, ℕ, List, ◌∷◌, codes}
use Rattle.std.specs.declared.option.Option.{Option}
use Rattle.f77_tree.specs.declared.form.Form.TheVariants as f
use Rattle.f77_tree.specs.declared.form.TypeWord.{TypeWord}
use Rattle.f77_tree.specs.declared.unit.Stmt.{Stmt}
use Rattle.f77_tree.specs.declared.unit.Unit.{Unit as SourceUnit}
use Rattle.f77_tree.specs.declared.unit.UnitKind.{UnitKind}
use Rattle.fixed_form.specs.declared.reader.Line.{Line}
use Rattle.fixed_form.specs.declared.reader.UnitText.{UnitText}
use Rattle.f77_forms.specs.Forms.{HasForm}
use Rattle.f77_parse.specs.Parsed.{IsUnit}

-- The first statement has the form of a head with the name of the unit; or it has the form of no head, and the name is MAIN.
pub data IsNamedByHead (u : UnitText) : Type 0 where
  headed : (first : Line) (rest : List Line) (kind : UnitKind) (word : Option TypeWord) (dummies : List (List ℕ)) → u.statements ≡ first ∷ rest → HasForm first.text (f.Head kind word u.name dummies) → IsNamedByHead u
  headless : ((first : Line) (rest : List Line) (kind : UnitKind) (word : Option TypeWord) (name : List ℕ) (dummies : List (List ℕ)) → u.statements ≡ first ∷ rest → HasForm first.text (f.Head kind word name dummies) → ⊥) →
      u.name ≡ codes "MAIN" → IsNamedByHead u

-- A head that stands first in the tree has the name of the tree.
abbrev pub HasItsName : SourceUnit → Type 0
HasItsName tree = (first : Stmt) (rest : List Stmt) (kind : UnitKind) (word : Option TypeWord) (name : List ℕ) (dummies : List (List ℕ)) → tree.statements ≡ first ∷ rest → first.form ≡ f.Head kind word name dummies → name ≡ tree.name

abbrev pub GivesItsName : UnitText → Type 0
GivesItsName u = (tree : SourceUnit) → IsUnit u tree → HasItsName tree

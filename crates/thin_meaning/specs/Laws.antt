-- A thin program means the same as its unit does.
use Rattle.std.specs.Prelude.{◌≡◌, ℕ, ℤ, ◌≤◌, List, [], ◌∷◌, length}
use Rattle.f77_tree.specs.declared.unit.Unit.{Unit as SourceUnit}
use Rattle.fixed_form.specs.declared.reader.UnitText.{UnitText}
use Rattle.f77_semantics.specs.Source as whole
use Rattle.rn_draft.specs.Accepted.{Accepted}
use Rattle.rn_draft.specs.Drafts.{drafted}
use Rattle.thin_form.specs.declared.statement.Statement.{Statement}
use Rattle.thin_text.specs.Thin.{IsThin}
use Rattle.thin_code.specs.Layout.{names_of}
use Rattle.thin_code.specs.Meaning as thin
use Rattle.thin_meaning.specs.Units.{IsThinUnit}

-- The storage of a program has 16,777,216 units at most.
abbrev pub most_names : ℕ
most_names = 16777216

-- the tree of a thin text
pub record HasThinUnit (trees : List SourceUnit) (body : List Statement) : Type 0 where
  pub unit : SourceUnit
  pub alone : trees ≡ unit ∷ []
  pub thin : IsThinUnit unit body
  pub few : length (names_of body) ≤ most_names

-- The trees of an accepted text that is thin are one main program with the thin statements.
abbrev pub ThinTextsHaveUnits : Type 0
ThinTextsHaveUnits = (units : List UnitText) (body : List Statement) (trees : List SourceUnit) → IsThin units body → Accepted (drafted units) trees → HasThinUnit trees body

-- On every input and for every number of steps the unit's run is that of the thin statements.
abbrev pub UnitsRunAlike : Type 0
UnitsRunAlike = (unit : SourceUnit) (body : List Statement) → IsThinUnit unit body → length (names_of body) ≤ most_names → (input : List ℤ) (n : ℕ) → whole.Source (unit ∷ []) input n ≡ thin.Source body input n

-- So the run of a text's trees is that of its thin statements.
abbrev pub TextsRunAlike : Type 0
TextsRunAlike = (units : List UnitText) (body : List Statement) (trees : List SourceUnit) → IsThin units body → Accepted (drafted units) trees → (input : List ℤ) (n : ℕ) → whole.Source trees input n ≡ thin.Source body input n

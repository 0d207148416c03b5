-- The order of statements in a unit (section 3.5 of the standard).
use Rattle.std.specs.Prelude.{◌≡◌, Bool, true, false, List, [], ◌∷◌, ◌++◌}
use Rattle.f77_tree.specs.declared.form.Form.{Form}
use Rattle.f77_tree.specs.declared.unit.UnitKind.{UnitKind}
use Rattle.f77_tree.specs.declared.unit.UnitKind.TheVariants as unit
use Rattle.fixed_form.specs.declared.reader.Line.{Line}
use Rattle.f77_forms.specs.Forms.{HasForm}
use Rattle.f77_parse.specs.declared.class.Class.{Class}
use Rattle.f77_parse.specs.declared.class.Class.TheVariants as class
use Rattle.f77_parse.specs.Statements.{class_of, has_return}

-- Specification statements. DATA, which may stand anywhere, isn't among them.
abbrev pub is_specification : Class → Bool
is_specification class.Implicit = true
is_specification class.Parameter = true
is_specification class.Procedures = true
is_specification class.Declaration = true
is_specification _ = false

-- those that no IMPLICIT may follow
abbrev pub bars_implicit : Class → Bool
bars_implicit class.Procedures = true
bars_implicit class.Declaration = true
bars_implicit _ = false

abbrev pub is_executable : Class → Bool
is_executable class.Executable = true
is_executable _ = false

-- what BLOCK DATA can't have
abbrev pub bars_block_data : Class → Bool
bars_block_data class.Executable = true
bars_block_data class.Procedures = true
bars_block_data _ = false

-- one of the statements has a form of such a class
pub record HasClass (such : Class → Bool) (lines : List Line) : Type 0 where
  pub front : List Line
  pub line : Line
  pub behind : List Line
  pub cut : lines ≡ front ++ line ∷ behind
  pub form : Form
  pub has : HasForm line.text form
  pub is : such (class_of form) ≡ true

-- A statement of this form can't stand behind these in a unit of this kind.
pub data BreaksOrder (kind : UnitKind) (before : List Line) (form : Form) : Type 0 where
  late_head : class_of form ≡ class.Head → (before ≡ [] → ⊥) → BreaksOrder kind before form
  late_implicit : class_of form ≡ class.Implicit → HasClass bars_implicit before → BreaksOrder kind before form
  late_specification : is_specification (class_of form) ≡ true → HasClass is_executable before → BreaksOrder kind before form
  in_block_data : kind ≡ unit.BlockData → bars_block_data (class_of form) ≡ true → BreaksOrder kind before form
  in_main : kind ≡ unit.Main → has_return form ≡ true → BreaksOrder kind before form

-- The tree of a unit.
use Rattle.std.specs.Prelude.{◌≡◌}
use Rattle.std.specs.List.{AllZip}
use Rattle.f77_tree.specs.declared.unit.Stmt.{Stmt}
use Rattle.f77_tree.specs.declared.unit.Unit.{Unit as SourceUnit}
use Rattle.fixed_form.specs.declared.reader.Line.{Line}
use Rattle.fixed_form.specs.declared.reader.UnitText.{UnitText}
use Rattle.f77_forms.specs.Forms.{HasForm}
use Rattle.fault_marks.specs.declared.marks.Mark.{Mark}
use Rattle.f77_parse.specs.Statements.{HasHead}
use Rattle.f77_parse.specs.Limits.{CountTokens}
use Rattle.f77_parse.specs.UnitFaults.{UnitShows}

-- the tree of a statement
pub record IsStatement (line : Line) (s : Stmt) : Type 0 where
  pub label : s.label ≡ line.label
  pub line_is : s.line ≡ line.line
  pub form : HasForm line.text s.form

pub record IsUnit (u : UnitText) (unit : SourceUnit) : Type 0 where
  pub head : HasHead u.statements unit.kind unit.dummies
  pub name : unit.name ≡ u.name
  pub statements : AllZip IsStatement u.statements unit.statements
  pub tokens : CountTokens u.statements unit.tokens

pub record IsFaultless (u : UnitText) : Type 0 where
  pub none : (mark : Mark) → UnitShows u mark → ⊥

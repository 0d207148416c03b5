-- Which trees thin programs have.
use Rattle.std.specs.Prelude.{◌≡◌, List, []}
use Rattle.std.specs.List.{AllZip}
use Rattle.f77_tree.specs.declared.unit.Stmt.{Stmt}
use Rattle.f77_tree.specs.declared.unit.Unit.{Unit as SourceUnit}
use Rattle.f77_tree.specs.declared.unit.UnitKind.TheVariants.{Main}
use Rattle.thin_form.specs.declared.statement.Statement.{Statement}
use Rattle.thin_form.specs.Forms.{IsStatementOf}

-- The tree of a statement has the form of a thin statement.
abbrev pub IsThinStmt : Stmt → Statement → Type 0
IsThinStmt s statement = IsStatementOf s.form statement

-- A main program whose statements are thin, one after another.
pub record IsThinUnit (u : SourceUnit) (body : List Statement) : Type 0 where
  pub main : u.kind ≡ Main
  pub dummies : u.dummies ≡ []
  pub statements : AllZip IsThinStmt u.statements body

-- Units whose last statement is END.
use Rattle.std.specs.Prelude.{◌≡◌, List, [], ◌∷◌, ◌++◌}
use Rattle.std.specs.List.{All}
use Rattle.f77_tree.specs.declared.form.Form.TheVariants as form
use Rattle.f77_tree.specs.declared.unit.Stmt.{Stmt}
use Rattle.f77_tree.specs.declared.unit.Unit.{Unit as SourceUnit}

abbrev pub IsNoEnd : Stmt → Type 0
IsNoEnd s = s.form ≡ form.End → ⊥

-- The statements of the unit are END and some before it, none of which is END.
pub record EndsOnce (unit : SourceUnit) : Type 0 where
  pub front : List Stmt
  pub last : Stmt
  pub ends : unit.statements ≡ front ++ last ∷ []
  pub end : last.form ≡ form.End
  pub before : All IsNoEnd front

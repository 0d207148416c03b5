-- Routines whose control goes as these statements say.
use Rattle.std.specs.Prelude.{◌≡◌, ℕ, List}
use Rattle.std.specs.Borrow.{Bor}
use Rattle.f77_tree.specs.declared.unit.Stmt.{Stmt}
use Rattle.f77_tree.specs.declared.unit.Ty.{Ty}
use Rattle.f77_flow.specs.Blocks as b
use Rattle.f77_flow.specs.Graph as g
use Rattle.f77_semantics.specs.Program.{Routine}
use Rattle.f77_semantics.specs.declared.storage.Base.{Base}

pub record Follows (u : Routine) (statements : List Stmt) : Type 0 where
  pub below : (k : ℕ) → u.below k ≡ b.below statements k
  pub after : (k : ℕ) → u.after k ≡ g.after statements k
  pub leaving : (d : ℕ) → u.leaving d ≡ g.leaving statements d

-- the variable that has a function's result
abbrev pub variable_of : Ty × Bor Base → Ty × Base
variable_of v = (v.0, v.1.now)

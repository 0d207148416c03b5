-- The type of an expression (ANSI X3.9-1978, sections 6.1.4, 6.3 and 6.4). An operator gives a type of its own, whatever its operands
-- are. No type stands for that of a name that has none, or one that the language lacks.
use Rattle.std.specs.Prelude.{Option, Some, None, if◌then◌else◌}
use Rattle.f77_tree.specs.declared.expr.Expr.{Expr, fold-Expr}
use Rattle.f77_tree.specs.declared.expr.Expr.TheOpen.{Expr-F}
use Rattle.f77_tree.specs.declared.expr.Op.{Op}
use Rattle.f77_tree.specs.declared.expr.Op.TheVariants.{Pow, Mul, Div, Add, Sub, And, Or, Eqv, Neqv}
use Rattle.f77_tree.specs.declared.unit.Ty.{Ty}
use Rattle.f77_tree.specs.declared.unit.Ty.TheVariants.{Integer, Logical}
use Rattle.f77_names.specs.declared.facts.Facts.{Facts}
use Rattle.f77_values.specs.Tables.{Name}
use Rattle.f77_names.specs.Roles.{type_of}
use Rattle.f77_names.specs.Standings.{standing_of, is_called}

-- the type of an operator's operands: relations compare integers
abbrev pub takes : Op → Ty
takes And = Logical
takes Or = Logical
takes Eqv = Logical
takes Neqv = Logical
takes _ = Integer

-- the type of what an operator gives
abbrev pub gives : Op → Ty
gives Pow = Integer
gives Mul = Integer
gives Div = Integer
gives Add = Integer
gives Sub = Integer
gives _ = Logical

-- A name without a list: that of a function, an intrinsic, a subroutine or a procedure is no value, and has no type there.
abbrev pub plain_type : Facts → Name → Option Ty
plain_type f name = if is_called (standing_of f name) then None else type_of f name

abbrev pub type_step : Facts → Expr-F (Option Ty) → Option Ty
type_step f (Expr-F.Int n) = Some Integer
type_step f (Expr-F.Truth b) = Some Logical
type_step f (Expr-F.Text bytes) = None
type_step f (Expr-F.Scalar name) = plain_type f name
type_step f (Expr-F.Apply name list) = type_of f name
type_step f (Expr-F.Paren e) = e
type_step f (Expr-F.Neg e) = Some Integer
type_step f (Expr-F.Plus e) = Some Integer
type_step f (Expr-F.Not e) = Some Logical
type_step f (Expr-F.Binary op a b) = Some (gives op)

abbrev pub expression_type : Facts → Expr → Option Ty
expression_type f e = fold-Expr (Option Ty) (type_step f) e

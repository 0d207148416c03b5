-- What a target of an assignment or READ is by itself, its subscripts aside, and a variable of DO (ANSI X3.9-1978, sections 10.1,
-- 11.10 and 12.8.2).
use Rattle.std.specs.Prelude.{Bool, true, false, not, Option, None}
use Rattle.f77_tree.specs.declared.expr.Expr.{Expr}
use Rattle.f77_tree.specs.declared.expr.Expr.TheOpen.{Expr-F}
use Rattle.f77_tree.specs.declared.expr.Expr.TheViews.{out-Expr}
use Rattle.f77_tree.specs.declared.unit.Ty.{Ty}
use Rattle.f77_names.specs.declared.facts.Facts.{Facts}
use Rattle.f77_names.specs.Roles.{type_of}
use Rattle.f77_names.specs.Standings.{standing_of, is_array, is_scalar}

abbrev pub type_at : Facts → Expr-F Expr → Option Ty
type_at f (Expr-F.Scalar name) = type_of f name
type_at f (Expr-F.Apply name list) = type_of f name
type_at f _ = None

-- The type of a target is its name's, whatever the name is.
abbrev pub target_type : Facts → Expr → Option Ty
target_type f target = type_at f (out-Expr target)

abbrev pub whole_at : Facts → Expr-F Expr → Bool
whole_at f (Expr-F.Scalar name) = is_array (standing_of f name)
whole_at f (Expr-F.Apply name list) = not (is_array (standing_of f name))
whole_at f _ = false

-- Fault 21 of a target: an array's name, or subscripts behind a name that is no array
abbrev pub is_no_element : Facts → Expr → Bool
is_no_element f target = whole_at f (out-Expr target)

abbrev pub other_at : Facts → Expr-F Expr → Bool
other_at f (Expr-F.Scalar name) = not (is_scalar (standing_of f name))
other_at f (Expr-F.Apply name list) = not (is_array (standing_of f name))
other_at f _ = true

-- Fault 25 of a target: neither a scalar variable nor an array element
abbrev pub is_no_variable : Facts → Expr → Bool
is_no_variable f target = other_at f (out-Expr target)

-- The type of a name with a list is the name's.
use Rattle.std.proofs.Common.{◌≡◌, List, Option, ap, sym, ◌∙◌}
use Rattle.f77_tree.specs.declared.expr.Expr.{Expr, fold-roll-Expr}
use Rattle.f77_tree.specs.declared.expr.Expr.TheOpen.{Expr-F}
use Rattle.f77_tree.specs.declared.expr.Expr.TheVariants.{Apply, rolls-Apply}
use Rattle.f77_tree.specs.declared.unit.Ty.{Ty}
use Rattle.f77_names.specs.declared.facts.Facts.{Facts}
use Rattle.f77_values.specs.Tables.{Name}
use Rattle.f77_names.specs.Roles.{type_of}
use Rattle.check_types.specs.ExpressionTypes.{type_step, expression_type}

pub type_of-Apply : (f : Facts) (name : Name) (list : List Expr) → expression_type f (Apply name list) ≡ type_of f name
type_of-Apply f name list =
    ap (expression_type f) (sym (rolls-Apply name list)) ∙ fold-roll-Expr (Option Ty) (type_step f) (Expr-F.Apply name list)

pub ruleset typing = (type_of-Apply)

-- A name with a list has no value.
use Rattle.std.proofs.Common.{◌≡◌, List, Option, None, ap, sym, ◌∙◌}
use Rattle.f77_tree.specs.declared.expr.Expr.{Expr, fold-roll-Expr}
use Rattle.f77_tree.specs.declared.expr.Expr.TheOpen.{Expr-F}
use Rattle.f77_tree.specs.declared.expr.Expr.TheVariants.{Apply, rolls-Apply}
use Rattle.f77_tree.specs.declared.unit.Value.{Value}
use Rattle.f77_values.specs.Tables.{Name, Told}
use Rattle.f77_values.specs.Constants.{value_step, value_of}

pub value_of-Apply : (named : Told Value) (name : Name) (list : List Expr) → value_of named (Apply name list) ≡ None
value_of-Apply named name list =
    ap (value_of named) (sym (rolls-Apply name list)) ∙ fold-roll-Expr (Option Value) (value_step named) (Expr-F.Apply name list)

pub ruleset values = (value_of-Apply)

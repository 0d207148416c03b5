-- A name with a list is no constant and has no value. Tests are joined in any grouping.
use Rattle.std.proofs.Common.{◌≡◌, ℕ, List, Bool, false, Option, None, ap, sym, ◌∙◌, append_assoc}
use Rattle.f77_tree.specs.declared.expr.Expr.{Expr, fold-roll-Expr}
use Rattle.std.proofs.Math.Bool.{or_assoc}
use Rattle.f77_tree.specs.declared.expr.Expr.TheViews.{outs-Apply}
use Rattle.f77_tree.specs.declared.expr.Expr.TheOpen.{Expr-F}
use Rattle.f77_tree.specs.declared.expr.Expr.TheVariants.{Apply, rolls-Apply}
use Rattle.f77_tree.specs.declared.unit.Value.{Value}
use Rattle.f77_values.specs.Tables.{Name, Told}
use Rattle.check_constants.specs.declared.expressions.Judged.{Judged}
use Rattle.check_constants.specs.Expressions.{parts_step, is_made_of, judge_step, judged, plain}

pub judged-Apply : (named : Told Value) (name : Name) (list : List Expr) → judged named (Apply name list) ≡ plain None
judged-Apply named name list = ap (judged named) (sym (rolls-Apply name list)) ∙ fold-roll-Expr Judged (judge_step named) (Expr-F.Apply name list)

pub is_made_of-Apply : (allowed : Name → Bool) (name : Name) (list : List Expr) → is_made_of allowed (Apply name list) ≡ false
is_made_of-Apply allowed name list = ap (is_made_of allowed) (sym (rolls-Apply name list)) ∙ fold-roll-Expr Bool (parts_step allowed) (Expr-F.Apply name list)

pub ruleset layers = (judged-Apply, is_made_of-Apply)

pub ruleset views = (outs-Apply)

pub ruleset lists = (append_assoc)

pub ruleset tests = (or_assoc)

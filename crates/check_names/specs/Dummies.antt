-- Fault 24: a dummy stands in COMMON, among DATA's items or in SAVE (ANSI X3.9-1978, sections 8.3, 8.9 and 9.2).
use Rattle.std.specs.Prelude.{ℕ, Bool, false, List, slice_get}
use Rattle.std.specs.List.{list_any}
use Rattle.f77_tree.specs.declared.expr.Expr.{Expr}
use Rattle.f77_tree.specs.declared.expr.Expr.TheViews.{out-Expr}
use Rattle.f77_tree.specs.declared.expr.Expr.TheOpen.{Expr-F}
use Rattle.f77_tree.specs.declared.form.Declarator.{Declarator}
use Rattle.f77_tree.specs.declared.form.DataConst.{DataConst}
use Rattle.f77_tree.specs.declared.form.Form.{Form}
use Rattle.f77_tree.specs.declared.form.Form.TheViews.{out-Form}
use Rattle.f77_tree.specs.declared.form.Form.TheOpen.{Form-F}
use Rattle.f77_tree.specs.declared.unit.Unit.{Unit}
use Rattle.f77_names.specs.declared.attributes.Attributes.{Attributes}
use Rattle.f77_values.specs.Tables.{Name, is_among}
use Rattle.check_names.specs.Places.{where_stands}

abbrev pub is_dummy : Attributes → Name → Bool
is_dummy a name = is_among a.dummies name

abbrev pub declares_dummy : Attributes → Declarator → Bool
declares_dummy a d = is_dummy a d.name

abbrev pub in_block : Attributes → Name × List Declarator → Bool
in_block a block = list_any (declares_dummy a) block.1

abbrev pub item_step : Attributes → Expr-F Expr → Bool
item_step a (Expr-F.Scalar name) = is_dummy a name
item_step a (Expr-F.Apply name list) = is_dummy a name
item_step a _ = false

abbrev pub is_item : Attributes → Expr → Bool
is_item a e = item_step a (out-Expr e)

abbrev pub in_run : Attributes → List Expr × List DataConst → Bool
in_run a run = list_any (is_item a) run.0

abbrev pub displaces : Attributes → Form-F Form → Bool
displaces a (Form-F.Common blocks) = list_any (in_block a) blocks
displaces a (Form-F.DataRuns runs) = list_any (in_run a) runs
displaces a (Form-F.Save names blocks) = list_any (is_dummy a) names
displaces a _ = false

abbrev pub displaces_at : Attributes → Unit → ℕ → Bool
displaces_at a u k = where_stands false (λ s. displaces a (out-Form s.form)) (slice_get u.statements k)

-- A statement of DATA that isn't right by itself (ANSI X3.9-1978, sections 9 and 16).
use Rattle.std.specs.Prelude.{Bool, false, ◌||◌, List}
use Rattle.std.specs.List.{list_any}
use Rattle.f77_tree.specs.declared.expr.Expr.{Expr, out-Expr}
use Rattle.f77_tree.specs.declared.form.DataConst.{DataConst}
use Rattle.f77_tree.specs.declared.form.Form.{Form, out-Form}
use Rattle.f77_tree.specs.declared.form.Form.TheOpen.{Form-F}
use Rattle.f77_tree.specs.declared.unit.Stmt.{Stmt}
use Rattle.f77_tree.specs.declared.unit.UnitKind.{UnitKind}
use Rattle.f77_tree.specs.declared.unit.Value.{Value}
use Rattle.f77_store.specs.declared.areas.Place.{Place}
use Rattle.f77_names.specs.declared.facts.Facts.{Facts}
use Rattle.f77_values.specs.Tables.{Told}
use Rattle.check_constants.specs.declared.defined.Defined.{Defined}
use Rattle.check_data.specs.declared.measures.Measured.{Measured}
use Rattle.check_data.specs.DataItems.{item_misplaced, item_outside, wrong_constant}
use Rattle.check_data.specs.DataRuns.{item_runs, constant_runs, differ}

-- an item that doesn't belong there, or whose subscripts lie outside
abbrev pub wrong_item : UnitKind → Told Place → Told Measured → Defined → Expr → Bool
wrong_item kind commons measures d e = item_misplaced kind commons (out-Expr e) || item_outside d.values measures (out-Expr e)

-- items and constants in number and type
abbrev pub lists_differ : Facts → Told Measured → Told Value → List Expr × List DataConst → Bool
lists_differ f measures named list = differ (item_runs f measures list.0) (constant_runs f named list.1)

module _ (kind : UnitKind) (f : Facts) (commons : Told Place) (measures : Told Measured) where
  -- items with their constants
  abbrev pub wrong_list : Defined → List Expr × List DataConst → Bool
  wrong_list d list =
      list_any (wrong_item kind commons measures d) list.0
      || (list_any (wrong_constant d) list.1
      || lists_differ f measures d.values list)

  abbrev pub wrong_data : Defined → Form-F Form → Bool
  wrong_data d (Form-F.DataRuns lists) = list_any (wrong_list d) lists
  wrong_data d _ = false

  -- a statement, under what is defined before it
  abbrev pub statement_wrong : Defined → Stmt → Bool
  statement_wrong d s = wrong_data d (out-Form s.form)

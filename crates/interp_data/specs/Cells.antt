-- The names that SAVE and DATA keep, and the cells of their slots.
use Rattle.std.specs.Prelude.{List, [], ◌∷◌, Bool, ◌&&◌, if◌then◌else◌, flat_map}
use Rattle.f77_tree.specs.declared.expr.Expr.{Expr, out-Expr}
use Rattle.f77_tree.specs.declared.form.DataConst.{DataConst}
use Rattle.f77_tree.specs.declared.form.Form.{out-Form}
use Rattle.f77_tree.specs.declared.unit.Stmt.{Stmt}
use Rattle.f77_store.specs.declared.storage.Slot.{Slot}
use Rattle.f77_values.specs.Tables.{Name}
use Rattle.f77_semantics.specs.Data.{item_names, kept_names, is_own}
use Rattle.f77_semantics.specs.declared.storage.Kept.{Kept}

-- the names among items of DATA, and all that SAVE and DATA name
abbrev pub in_items : List Expr → List Name
in_items items = flat_map (λ e. item_names (out-Expr e)) items

abbrev pub in_runs : List (List Expr × List DataConst) → List Name
in_runs runs = flat_map (λ run. in_items run.0) runs

abbrev pub names_kept : List Stmt → List Name
names_kept statements = flat_map (λ s. kept_names (out-Form s.form)) statements

-- the units of a slot whose name is kept
abbrev pub kept_slot : (Name → Bool) → Slot → List Kept
kept_slot keeps s = if is_own s.area && keeps s.name then record { from = s.from; length = s.size } ∷ [] else []

abbrev pub kept_slots : (Name → Bool) → List Slot → List Kept
kept_slots keeps slots = flat_map (kept_slot keeps) slots

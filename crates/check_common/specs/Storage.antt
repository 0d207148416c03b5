-- The storage units of a COMMON block that an item of DATA stands for (ANSI X3.9-1978, sections 5.2.5, 8.3 and 9.1).
use Rattle.std.specs.Prelude.{ℕ, ◌+◌, ◌*◌, ◌&&◌, List, [], ◌∷◌, Option, Some, None, ℤ, ◌-ℤ◌, int_le, unsigned_abs, if◌then◌else◌}
use Rattle.f77_tree.specs.declared.expr.Expr.{Expr}
use Rattle.f77_tree.specs.declared.expr.Expr.TheOpen.{Expr-F}
use Rattle.f77_tree.specs.declared.unit.Stmt.{Stmt}
use Rattle.f77_tree.specs.declared.unit.Unit.{Unit}
use Rattle.f77_tree.specs.declared.unit.Value.{Value}
use Rattle.f77_store.specs.declared.areas.Member.{Member}
use Rattle.f77_names.specs.declared.declarations.Shape.{Shape}
use Rattle.f77_store.specs.Areas.{commons, size_of}
use Rattle.f77_values.specs.Constants.{constants, value_of}
use Rattle.f77_names.specs.Declarations.{declarations, shapes}
use Rattle.f77_values.specs.Tables.{Name, Told, what, saturated}
use Rattle.f77_values.specs.Sizes.{Bounds, whole, lower, upper, extent}
use Rattle.check_common.specs.declared.places.Start.{Start}
use Rattle.check_common.specs.declared.storage.Storage.{Storage}
use Rattle.check_common.specs.declared.runs.Run.{Run}
use Rattle.check_common.specs.Places.{starts}

abbrev pub storage_with : Told Shape → List Member → List Stmt → Storage
storage_with shapes members statements = record { starts = starts (size_of shapes) members; shapes = shapes; constants = constants statements }

-- where a unit's members of COMMON blocks stand, the shapes of its arrays and its named constants
abbrev pub storage : Unit → Storage
storage u = storage_with (shapes (declarations u.statements)) (commons (declarations u.statements)) u.statements

-- so many units from this one on
abbrev pub run_from : Name → ℕ → ℕ → Run
run_from block from size = record { block = block; from = from; size = size }

-- ---- elements

-- how far a subscript is above its lower bound, where it is within both bounds
abbrev pub steps : Option ℤ → Option ℤ → Option ℤ → Option ℕ
steps (Some low) (Some high) (Some n) = if int_le low n && int_le n high then Some (unsigned_abs (n -ℤ low)) else None
steps _ _ _ = None

abbrev pub steps_in : Told Value → Told Value → Option Expr × Option Expr → Expr → Option ℕ
steps_in all named bound e = steps (lower all bound.0) (upper all bound.1) (whole (value_of named e))

abbrev pub joined : Option ℕ → Option ℕ → Option ℕ → Option ℕ
joined (Some i) (Some extent) (Some others) = Some (i + extent * others)
joined _ _ _ = None

-- How far an element is behind the first one of its array: the first subscript varies fastest. Bounds have their values under all the
-- constants of the unit, subscripts under those that are defined before the statement.
abbrev pub offset : Told Value → Told Value → Bounds → List Expr → Option ℕ
offset all named [] [] = Some 0
offset all named (bound ∷ bounds) (e ∷ others) = joined (steps_in all named bound e) (extent all bound) (offset all named bounds others)
offset all named _ _ = None

abbrev pub offset_in : Storage → Told Value → Option Shape → List Expr → Option ℕ
offset_in s named None list = None
offset_in s named (Some shape) list = offset s.constants named shape.bounds list

-- ---- what an item stands for

abbrev pub whole_run : Storage → Name → Option Start → Option Run
whole_run s name None = None
whole_run s name (Some start) = Some (run_from start.block start.from (size_of s.shapes name))

-- An element so far behind the first one that 32 bits don't tell it is in an array that is a fault of its own unit.
abbrev pub element_run : Option Start → Option ℕ → Option Run
element_run (Some start) (Some k) = Some (run_from start.block (start.from + saturated k) 1)
element_run _ _ = None

-- All of a name, or one element of it. There is none where the name isn't in COMMON, or the element isn't in its array.
abbrev pub item_run : Storage → Told Value → Expr-F Expr → Option Run
item_run s named (Expr-F.Scalar name) = whole_run s name (what s.starts name)
item_run s named (Expr-F.Apply name list) = element_run (what s.starts name) (offset_in s named (what s.shapes name) list)
item_run s named _ = None

-- The items of DATA and its constants, each by itself (ANSI X3.9-1978, section 9).
use Rattle.std.specs.Prelude.{Bool, true, false, not, ◌||◌, ◌==◌, Option, Some, None, List, [], ◌∷◌, length, pos, ℤ, int_lt, is_some}
use Rattle.f77_tree.specs.declared.expr.Expr.{Expr}
use Rattle.f77_tree.specs.declared.expr.Expr.TheOpen.{Expr-F}
use Rattle.f77_tree.specs.declared.form.DataConst.{DataConst}
use Rattle.f77_tree.specs.declared.unit.UnitKind.{UnitKind}
use Rattle.f77_tree.specs.declared.unit.UnitKind.TheVariants.{BlockData}
use Rattle.f77_tree.specs.declared.unit.Value.{Value}
use Rattle.f77_tree.specs.declared.unit.Value.TheVariants.{Integer, Logical}
use Rattle.f77_store.specs.declared.areas.Place.{Place}
use Rattle.f77_values.specs.Tables.{Told, what}
use Rattle.f77_values.specs.Constants.{value_of}
use Rattle.f77_values.specs.Sizes.{whole}
use Rattle.check_constants.specs.declared.defined.Defined.{Defined}
use Rattle.check_data.specs.declared.measures.Measured.{Measured}
use Rattle.check_constants.specs.Needed.{is_constant}

-- Outside BLOCK DATA no item is in COMMON; in BLOCK DATA each is, and in a block with a name.
abbrev pub misplaced : UnitKind → Option Place → Bool
misplaced BlockData None = true
misplaced BlockData (Some place) = length place.block == 0
misplaced _ place = is_some place

abbrev pub item_misplaced : UnitKind → Told Place → Expr-F Expr → Bool
item_misplaced kind commons (Expr-F.Scalar name) = misplaced kind (what commons name)
item_misplaced kind commons (Expr-F.Apply name list) = misplaced kind (what commons name)
item_misplaced kind commons _ = false

abbrev pub below : Option ℤ → ℤ → Bool
below (Some low) n = int_lt n low
below None n = false

abbrev pub above : Option ℤ → ℤ → Bool
above (Some high) n = int_lt high n
above None n = false

-- a subscript that lies below its lower bound or above its upper one, as far as they are constant
abbrev pub outside : Option ℤ × Option ℤ → Option ℤ → Bool
outside side None = false
outside side (Some n) = below side.0 n || above side.1 n

abbrev pub any_outside : Told Value → List Expr → List (Option ℤ × Option ℤ) → Bool
any_outside named [] sides = false
any_outside named (e ∷ es) [] = false
any_outside named (e ∷ es) (side ∷ sides) = outside side (whole (value_of named e)) || any_outside named es sides

abbrev pub outside_array : Told Value → List Expr → Option Measured → Bool
outside_array named list None = false
outside_array named list (Some array) = any_outside named list array.sides

abbrev pub item_outside : Told Value → Told Measured → Expr-F Expr → Bool
item_outside named measures (Expr-F.Apply name list) = outside_array named list (what measures name)
item_outside named measures _ = false

-- a number below 1, or a truth value
abbrev pub no_repeat : Option Value → Bool
no_repeat (Some (Integer n)) = int_lt n (pos 1)
no_repeat (Some (Logical b)) = true
no_repeat None = false

abbrev pub wrong_repeat : Defined → Option Expr → Bool
wrong_repeat d None = false
wrong_repeat d (Some e) = not (is_constant d e) || no_repeat (value_of d.values e)

-- a name that is no named constant defined before, or a repeat that isn't positive
abbrev pub wrong_constant : Defined → DataConst → Bool
wrong_constant d c = not (is_constant d c.value) || wrong_repeat d c.repeat

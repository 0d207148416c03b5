-- Values of operators (ANSI X3.9-1978, section 6) and of intrinsic functions (section 15.10), and the values of cells.
use Rattle.std.specs.Prelude.{List, [], ◌∷◌, Option, Some, None, Bool, true, false, ℤ, pos, neg_ℤ, ◌-ℤ◌, ◌*ℤ◌, int_lt, unsigned_abs, if◌then◌else◌}
use Rattle.std.specs.Int.{is_negative, int_max, int_min}
use Rattle.run_model.specs.Storage as storage
use Rattle.run_model.specs.Acts.{Act, Done, Fail, Reason, Undefined, Stuck}
use Rattle.f77_tree.specs.declared.expr.Op.{Op}
use Rattle.f77_tree.specs.declared.expr.Op.TheVariants.{Div}
use Rattle.f77_tree.specs.declared.unit.Ty.{Ty}
use Rattle.f77_tree.specs.declared.unit.Ty.TheVariants as ty
use Rattle.f77_tree.specs.declared.unit.Value.{Value}
use Rattle.f77_tree.specs.declared.unit.Value.TheVariants.{Integer, Logical}
use Rattle.f77_names.specs.declared.intrinsics.Intrinsic.{Intrinsic}
use Rattle.f77_names.specs.declared.intrinsics.Intrinsic.TheVariants.{Abs, Mod, Sign, Dim, Max, Min}
use Rattle.f77_values.specs.Arithmetic.{wrap, divided, operate}

-- a value in a cell, and a cell's value
abbrev pub stored : Value → storage.Value
stored (Integer x) = storage.Integer x
stored (Logical b) = storage.Logical b

abbrev pub seen : storage.Value → Value
seen (storage.Integer x) = Integer x
seen (storage.Logical b) = Logical b

abbrev pub has_type : Ty → Value → Bool
has_type ty.Integer (Integer x) = true
has_type ty.Logical (Logical b) = true
has_type _ _ = false

abbrev pub or_fail : {A : Type 0} → Reason → Option A → Act A
or_fail reason None = Fail reason
or_fail reason (Some a) = Done a

-- Of operators on operands of their types a division alone may have no value, which is undefined.
abbrev pub lacking : Op → Value → Value → Reason
lacking Div (Integer x) (Integer y) = Undefined 5
lacking _ _ _ = Stuck

abbrev pub operated : Op → Value → Value → Act Value
operated op x y = or_fail (lacking op x y) (operate op x y)

-- intrinsic functions: the greatest and the least of one or more
abbrev pub greatest : ℤ → List ℤ → ℤ
greatest x [] = x
greatest x (y ∷ ys) = greatest (int_max x y) ys

abbrev pub least : ℤ → List ℤ → ℤ
least x [] = x
least x (y ∷ ys) = least (int_min x y) ys

abbrev pub absolute : ℤ → ℤ
absolute x = wrap (pos (unsigned_abs x))

-- a - (a / b) * b
abbrev pub remainder : ℤ → ℤ → Option ℤ → Option ℤ
remainder x y None = None
remainder x y (Some quotient) = Some (wrap (x -ℤ wrap (quotient *ℤ y)))

abbrev pub intrinsic : Intrinsic → List ℤ → Act ℤ
intrinsic Abs (x ∷ []) = Done (absolute x)
intrinsic Mod (x ∷ y ∷ []) = or_fail (Undefined 5) (remainder x y (divided x y))
intrinsic Sign (x ∷ y ∷ []) = Done (if is_negative y then wrap (neg_ℤ (absolute x)) else absolute x)
intrinsic Dim (x ∷ y ∷ []) = Done (if int_lt y x then wrap (x -ℤ y) else pos 0)
intrinsic Max (x ∷ xs) = Done (greatest x xs)
intrinsic Min (x ∷ xs) = Done (least x xs)
intrinsic _ _ = Fail Stuck

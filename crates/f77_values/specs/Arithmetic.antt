-- Operators on values (ANSI X3.9-1978, section 6): 64-bit two's complement that wraps at each operator, relations and logic.
-- None stands for an operand of the wrong type, a zero divisor, and an exponent that isn't from 0 to 62.
use Rattle.std.specs.Prelude.{ℕ, zero, suc, Bool, true, false, not, ◌&&◌, ◌||◌, nat_le, ℤ, pos, negsuc, ◌+ℤ◌, ◌-ℤ◌, ◌*ℤ◌, neg_ℤ, int_lt, int_le, int_div, if◌then◌else◌, Option, Some, None}
use Rattle.std.specs.Ordering.{int_eq}
use Rattle.std.specs.Int.{int_wrap, w64}
use Rattle.f77_tree.specs.declared.unit.Value.{Value}
use Rattle.f77_tree.specs.declared.unit.Value.TheVariants.{Integer, Logical}
use Rattle.f77_tree.specs.declared.expr.Op.{Op}
use Rattle.f77_tree.specs.declared.expr.Op.TheVariants.{Pow, Mul, Div, Add, Sub, Eq, Ne, Lt, Le, Gt, Ge, And, Or, Eqv, Neqv}

abbrev pub wrap : ℤ → ℤ
wrap z = int_wrap w64 z

-- A power is a product of so many factors; of none it is 1.
abbrev pub power : ℤ → ℕ → ℤ
power x zero = pos 1
power x (suc n) = wrap (power x n *ℤ x)

abbrev pub powered : ℤ → ℤ → Option ℤ
powered x (pos n) = if nat_le n 62 then Some (power x n) else None
powered x (negsuc n) = None

-- The quotient is cut towards zero; the least value divided by -1 is the least value.
abbrev pub divided : ℤ → ℤ → Option ℤ
divided x y = if int_eq y (pos 0) then None else Some (wrap (int_div x y))

abbrev pub integer : Option ℤ → Option Value
integer None = None
integer (Some z) = Some (Integer z)

abbrev pub calculate : Op → ℤ → ℤ → Option Value
calculate Pow x y = integer (powered x y)
calculate Mul x y = Some (Integer (wrap (x *ℤ y)))
calculate Div x y = integer (divided x y)
calculate Add x y = Some (Integer (wrap (x +ℤ y)))
calculate Sub x y = Some (Integer (wrap (x -ℤ y)))
calculate Eq x y = Some (Logical (int_eq x y))
calculate Ne x y = Some (Logical (not (int_eq x y)))
calculate Lt x y = Some (Logical (int_lt x y))
calculate Le x y = Some (Logical (int_le x y))
calculate Gt x y = Some (Logical (int_lt y x))
calculate Ge x y = Some (Logical (int_le y x))
calculate And x y = None
calculate Or x y = None
calculate Eqv x y = None
calculate Neqv x y = None

abbrev pub same_truth : Bool → Bool → Bool
same_truth true b = b
same_truth false b = not b

abbrev pub decide : Op → Bool → Bool → Option Value
decide And a b = Some (Logical (a && b))
decide Or a b = Some (Logical (a || b))
decide Eqv a b = Some (Logical (same_truth a b))
decide Neqv a b = Some (Logical (not (same_truth a b)))
decide _ a b = None

abbrev pub operate : Op → Value → Value → Option Value
operate op (Integer x) (Integer y) = calculate op x y
operate op (Logical a) (Logical b) = decide op a b
operate op _ _ = None

abbrev pub negated : Value → Option Value
negated (Integer x) = Some (Integer (wrap (neg_ℤ x)))
negated (Logical b) = None

abbrev pub kept : Value → Option Value
kept (Integer x) = Some (Integer x)
kept (Logical b) = None

abbrev pub denied : Value → Option Value
denied (Logical b) = Some (Logical (not b))
denied (Integer x) = None

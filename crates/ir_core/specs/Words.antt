-- Words: integers of 64 bits, in two's complement. A truth value is the word 1 or 0.
use Rattle.std.specs.Prelude.{Option, Some, None, Bool, true, false, not, ℤ, pos, negsuc, ◌+ℤ◌, ◌-ℤ◌, ◌*ℤ◌, int_lt, int_le, int_rem, if◌then◌else◌}
use Rattle.std.specs.Int.{int_bit_and, int_bit_or, int_bit_xor, w64}
use Rattle.std.specs.Ordering.{int_eq}
use Rattle.run_model.specs.Storage.{Value, Integer, Logical}
use Rattle.f77_tree.specs.declared.unit.Ty.{Ty}
use Rattle.f77_tree.specs.declared.unit.Ty.TheVariants as ty
use Rattle.f77_values.specs.Arithmetic.{wrap, divided}
use Rattle.ir_core.specs.declared.instruction.Calc.{Calc}
use Rattle.ir_core.specs.declared.instruction.Calc.TheVariants.{Add, Sub, Mul, Div, Rem, And, Or, Xor, Eq, Ne, Lt, Le, Gt, Ge, Shift63}

abbrev pub truth_word : Bool → ℤ
truth_word true = pos 1
truth_word false = pos 0

-- the word of a value
abbrev pub word_of : Value → ℤ
word_of (Integer x) = x
word_of (Logical b) = truth_word b

-- the truth value of a word, if it is one's
abbrev pub truth_of : ℤ → Option Bool
truth_of x = if int_eq x (pos 0) then Some false else if int_eq x (pos 1) then Some true else None

abbrev pub logical : Option Bool → Option Value
logical None = None
logical (Some b) = Some (Logical b)

-- the value of this type that has the word
abbrev pub value_of : Ty → ℤ → Option Value
value_of ty.Integer x = Some (Integer x)
value_of ty.Logical x = logical (truth_of x)

-- The remainder has the sign of the dividend.
abbrev pub remainder : ℤ → ℤ → Option ℤ
remainder x y = if int_eq y (pos 0) then None else Some (int_rem x y)

-- all 64 bits are the sign
abbrev pub shifted : ℤ → ℤ
shifted x = if int_lt x (pos 0) then negsuc 0 else pos 0

-- What is calculated with two words. Only a zero divisor gives nothing.
abbrev pub calculated : Calc → ℤ → ℤ → Option ℤ
calculated Add x y = Some (wrap (x +ℤ y))
calculated Sub x y = Some (wrap (x -ℤ y))
calculated Mul x y = Some (wrap (x *ℤ y))
calculated Div x y = divided x y
calculated Rem x y = remainder x y
calculated And x y = Some (int_bit_and w64 x y)
calculated Or x y = Some (int_bit_or w64 x y)
calculated Xor x y = Some (int_bit_xor w64 x y)
calculated Eq x y = Some (truth_word (int_eq x y))
calculated Ne x y = Some (truth_word (not (int_eq x y)))
calculated Lt x y = Some (truth_word (int_lt x y))
calculated Le x y = Some (truth_word (int_le x y))
calculated Gt x y = Some (truth_word (int_lt y x))
calculated Ge x y = Some (truth_word (int_le y x))
calculated Shift63 x y = Some (shifted x)

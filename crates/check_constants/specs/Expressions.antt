-- What expressions are made of, and zero divisors in them (ANSI X3.9-1978, section 6.1.3).
use Rattle.std.specs.Prelude.{Bool, true, false, ◌&&◌, ◌||◌, Option, Some, pos}
use Rattle.std.specs.Ordering.{int_eq}
use Rattle.f77_tree.specs.declared.expr.Expr.{Expr, fold-Expr}
use Rattle.f77_tree.specs.declared.expr.Expr.TheFolds.{map-Expr}
use Rattle.f77_tree.specs.declared.expr.Expr.TheOpen.{Expr-F}
use Rattle.f77_tree.specs.declared.expr.Op.{Op}
use Rattle.f77_tree.specs.declared.expr.Op.TheVariants.{Div}
use Rattle.f77_tree.specs.declared.unit.Value.{Value}
use Rattle.f77_tree.specs.declared.unit.Value.TheVariants.{Integer}
use Rattle.f77_values.specs.Tables.{Name, Told}
use Rattle.f77_values.specs.Constants.{value_step, applied, operated}
use Rattle.check_constants.specs.declared.expressions.Judged.{Judged}

-- Integers, truth values, some names, parentheses and operators; no name with a list.
abbrev pub parts_step : (Name → Bool) → Expr-F Bool → Bool
parts_step allowed (Expr-F.Int n) = true
parts_step allowed (Expr-F.Truth b) = true
parts_step allowed (Expr-F.Text bytes) = false
parts_step allowed (Expr-F.Scalar name) = allowed name
parts_step allowed (Expr-F.Apply name list) = false
parts_step allowed (Expr-F.Paren e) = e
parts_step allowed (Expr-F.Neg e) = e
parts_step allowed (Expr-F.Plus e) = e
parts_step allowed (Expr-F.Not e) = e
parts_step allowed (Expr-F.Binary op a b) = a && b

abbrev pub is_made_of : (Name → Bool) → Expr → Bool
is_made_of allowed e = fold-Expr Bool (parts_step allowed) e

abbrev pub divides : Op → Option Value → Bool
divides Div (Some (Integer z)) = int_eq z (pos 0)
divides _ _ = false

-- A divisor has a value, and it is 0.
abbrev pub zero_step : Expr-F Judged → Bool
zero_step (Expr-F.Paren e) = e.zero_divisor
zero_step (Expr-F.Neg e) = e.zero_divisor
zero_step (Expr-F.Plus e) = e.zero_divisor
zero_step (Expr-F.Not e) = e.zero_divisor
zero_step (Expr-F.Binary op a b) = divides op b.value || (a.zero_divisor || b.zero_divisor)
zero_step _ = false

abbrev pub judge_step : Told Value → Expr-F Judged → Judged
judge_step named e = record { value = value_step named (map-Expr Judged (Option Value) (λ part. part.value) e); zero_divisor = zero_step e }

-- the value of an expression, if it has one, and whether a zero divisor stands in it
abbrev pub judged : Told Value → Expr → Judged
judged named e = fold-Expr Judged (judge_step named) e

-- what an operator makes of what is known of its operands
abbrev pub plain : Option Value → Judged
plain value = record { value = value; zero_divisor = false }

abbrev pub through : (Value → Option Value) → Judged → Judged
through operator part = record { value = applied operator part.value; zero_divisor = part.zero_divisor }

abbrev pub joined : Op → Judged → Judged → Judged
joined op a b = record { value = operated op a.value b.value; zero_divisor = divides op b.value || (a.zero_divisor || b.zero_divisor) }

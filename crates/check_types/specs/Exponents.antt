-- Fault 26: an exponent isn't a constant expression of value 0 to 62.
use Rattle.std.specs.Prelude.{Bool, false, not, ◌||◌, nat_le, Option, Some, None, pos}
use Rattle.std.specs.List.{list_any}
use Rattle.f77_tree.specs.declared.expr.Expr.{Expr, fold-Expr}
use Rattle.f77_tree.specs.declared.expr.Expr.TheOpen.{Expr-F}
use Rattle.f77_tree.specs.declared.expr.Op.{Op}
use Rattle.f77_tree.specs.declared.expr.Op.TheVariants.{Pow}
use Rattle.f77_tree.specs.declared.unit.Value.{Value}
use Rattle.f77_tree.specs.declared.unit.Value.TheVariants.{Integer, Logical}
use Rattle.f77_values.specs.Arithmetic.{negated, kept, denied}
use Rattle.f77_values.specs.Constants.{applied, operated}
use Rattle.f77_values.specs.Tables.{Told, what}
use Rattle.check_types.specs.declared.exponents.Reckoned.{Reckoned}

abbrev pub is_exponent : Option Value → Bool
is_exponent (Some (Integer (pos n))) = nat_le n 62
is_exponent _ = false

abbrev pub is_no_exponent : Op → Option Value → Bool
is_no_exponent Pow value = not (is_exponent value)
is_no_exponent _ value = false

abbrev pub sound : Option Value → Reckoned
sound value = record { value = value; wrong = false }

abbrev pub reckoned_between : Op → Reckoned → Reckoned → Reckoned
reckoned_between op a b = record { value = operated op a.value b.value; wrong = a.wrong || (b.wrong || is_no_exponent op b.value) }

-- The value of an expression under the named constants that are known, if it is constant, and whether an exponent in it is wrong.
abbrev pub reckoned_step : Told Value → Expr-F Reckoned → Reckoned
reckoned_step named (Expr-F.Int n) = sound (Some (Integer n))
reckoned_step named (Expr-F.Truth b) = sound (Some (Logical b))
reckoned_step named (Expr-F.Text bytes) = sound None
reckoned_step named (Expr-F.Scalar name) = sound (what named name)
reckoned_step named (Expr-F.Apply name list) = record { value = None; wrong = list_any (λ e. e.wrong) list }
reckoned_step named (Expr-F.Paren e) = e
reckoned_step named (Expr-F.Neg e) = record { value = applied negated e.value; wrong = e.wrong }
reckoned_step named (Expr-F.Plus e) = record { value = applied kept e.value; wrong = e.wrong }
reckoned_step named (Expr-F.Not e) = record { value = applied denied e.value; wrong = e.wrong }
reckoned_step named (Expr-F.Binary op a b) = reckoned_between op a b

abbrev pub reckoned : Told Value → Expr → Reckoned
reckoned named e = fold-Expr Reckoned (reckoned_step named) e

abbrev pub has_wrong_exponent : Told Value → Expr → Bool
has_wrong_exponent named e = (reckoned named e).wrong

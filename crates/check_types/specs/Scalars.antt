-- Fault 21 in an expression: an array's name stands where a scalar is needed, or a name that is called stands without a list
-- (ANSI X3.9-1978, sections 5.4.3, 15.9.3 and 18.2).
use Rattle.std.specs.Prelude.{Bool, false, not, ◌||◌, ◌&&◌}
use Rattle.std.specs.List.{list_any}
use Rattle.f77_tree.specs.declared.expr.Expr.{Expr, fold-Expr}
use Rattle.f77_tree.specs.declared.expr.Expr.TheOpen.{Expr-F}
use Rattle.f77_names.specs.declared.facts.Facts.{Facts}
use Rattle.f77_values.specs.Tables.{Name, is_among}
use Rattle.check_types.specs.declared.places.Place.{Place}
use Rattle.check_types.specs.declared.places.Place.TheVariants.{Value, Actual, Named}
use Rattle.f77_names.specs.Standings.{standing_of, is_called, is_array}
use Rattle.check_types.specs.Places.{wanted, member_place}

-- A name of EXTERNAL or INTRINSIC as an actual argument is told by the program (fault 35).
abbrev pub is_passed : Facts → Name → Bool
is_passed f name = is_among f.attributes.external name || is_among f.attributes.intrinsic name

-- An array's name can be an actual argument, a target or an item of DATA. A target and an item are in no expression.
abbrev pub is_no_scalar : Facts → Place → Name → Bool
is_no_scalar f (Value ty) name = is_array (standing_of f name) || is_called (standing_of f name)
is_no_scalar f Actual name = is_called (standing_of f name) && not (is_passed f name)
is_no_scalar f Named name = false

abbrev pub misplaced_step : Facts → Expr-F (Place → Bool) → Place → Bool
misplaced_step f (Expr-F.Int n) place = false
misplaced_step f (Expr-F.Truth b) place = false
misplaced_step f (Expr-F.Text bytes) place = false
misplaced_step f (Expr-F.Scalar name) place = is_no_scalar f place name
misplaced_step f (Expr-F.Apply name list) place = list_any (λ e. e (member_place (standing_of f name))) list
misplaced_step f (Expr-F.Paren e) place = e (Value (wanted place))
misplaced_step f (Expr-F.Neg e) place = e (Value (wanted place))
misplaced_step f (Expr-F.Plus e) place = e (Value (wanted place))
misplaced_step f (Expr-F.Not e) place = e (Value (wanted place))
misplaced_step f (Expr-F.Binary op a b) place = a (Value (wanted place)) || b (Value (wanted place))

abbrev pub is_misplaced : Facts → Place → Expr → Bool
is_misplaced f place e = fold-Expr (Place → Bool) (misplaced_step f) e place

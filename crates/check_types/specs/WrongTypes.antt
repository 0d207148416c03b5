-- Fault 19 in an expression: an operand, a subscript or an argument of an intrinsic has not the type that is wanted, or an intrinsic
-- has not its number of arguments (ANSI X3.9-1978, sections 5.4.2, 6 and 15.10).
use Rattle.std.specs.Prelude.{ℕ, Bool, true, false, not, ◌||◌, ◌==◌, nat_le, Option, Some, None, is_some, length}
use Rattle.std.specs.List.{list_any}
use Rattle.f77_tree.specs.declared.expr.Expr.{Expr, fold-Expr}
use Rattle.f77_tree.specs.declared.expr.Expr.TheOpen.{Expr-F}
use Rattle.f77_tree.specs.declared.unit.Ty.{Ty}
use Rattle.f77_tree.specs.declared.unit.Ty.TheVariants.{Integer, Logical}
use Rattle.f77_names.specs.declared.intrinsics.Intrinsic.{Intrinsic}
use Rattle.f77_names.specs.declared.intrinsics.Intrinsic.TheVariants.{Abs, Mod, Sign, Dim, Max, Min}
use Rattle.f77_names.specs.declared.facts.Facts.{Facts}
use Rattle.f77_names.specs.Intrinsics.{intrinsic_of}
use Rattle.f77_values.specs.Tables.{Name}
use Rattle.f77_names.specs.Roles.{type_of}
use Rattle.f77_names.specs.declared.standings.Standing.{Standing}
use Rattle.f77_names.specs.declared.standings.Standing.TheVariants as standing
use Rattle.check_types.specs.declared.places.Place.{Place}
use Rattle.check_types.specs.declared.places.Place.TheVariants.{Value}
use Rattle.f77_names.specs.Standings.{standing_of}
use Rattle.check_types.specs.ExpressionTypes.{takes, gives, plain_type}
use Rattle.check_types.specs.Places.{wanted, member_place}

-- A type differs from the other; what has no type differs from none.
abbrev pub differs : Option Ty → Option Ty → Bool
differs (Some Integer) (Some Logical) = true
differs (Some Logical) (Some Integer) = true
differs _ _ = false

abbrev pub takes_number : Intrinsic → ℕ → Bool
takes_number Abs n = n == 1
takes_number Mod n = n == 2
takes_number Sign n = n == 2
takes_number Dim n = n == 2
takes_number Max n = nat_le 2 n
takes_number Min n = nat_le 2 n

abbrev pub takes_arguments : Option Intrinsic → ℕ → Bool
takes_arguments None n = true
takes_arguments (Some i) n = takes_number i n

-- an intrinsic with so many arguments, where it takes others
abbrev pub is_miscalled : Standing → Name → ℕ → Bool
is_miscalled standing.Intrinsic name n = not (takes_arguments (intrinsic_of name) n)
is_miscalled _ name n = false

abbrev pub integers : Place
integers = Value (Some Integer)

abbrev pub truths : Place
truths = Value (Some Logical)

-- A literal is neither INTEGER nor LOGICAL. Parentheses stand where what they hold stands.
abbrev pub mistyped_step : Facts → Expr-F (Place → Bool) → Place → Bool
mistyped_step f (Expr-F.Int n) place = differs (wanted place) (Some Integer)
mistyped_step f (Expr-F.Truth b) place = differs (wanted place) (Some Logical)
mistyped_step f (Expr-F.Text bytes) place = is_some (wanted place)
mistyped_step f (Expr-F.Scalar name) place = differs (wanted place) (plain_type f name)
mistyped_step f (Expr-F.Apply name list) place = differs (wanted place) (type_of f name) || (is_miscalled (standing_of f name) name (length list) || list_any (λ e. e (member_place (standing_of f name))) list)
mistyped_step f (Expr-F.Paren e) place = e (Value (wanted place))
mistyped_step f (Expr-F.Neg e) place = differs (wanted place) (Some Integer) || e integers
mistyped_step f (Expr-F.Plus e) place = differs (wanted place) (Some Integer) || e integers
mistyped_step f (Expr-F.Not e) place = differs (wanted place) (Some Logical) || e truths
mistyped_step f (Expr-F.Binary op a b) place = differs (wanted place) (Some (gives op)) || (a (Value (Some (takes op))) || b (Value (Some (takes op))))

abbrev pub is_mistyped : Facts → Place → Expr → Bool
is_mistyped f place e = fold-Expr (Place → Bool) (mistyped_step f) e place

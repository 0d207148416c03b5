-- Whether a statement breaks a rule on its expressions and targets: every place of a statement where an expression stands, with what is
-- wanted there (ANSI X3.9-1978, sections 5.1.1, 8.6, 9, 10, 11, 12.8 and 15).
use Rattle.std.specs.Prelude.{Bool, false, not, ◌||◌, List, Option, Some, None}
use Rattle.std.specs.List.{list_any}
use Rattle.f77_tree.specs.declared.expr.Expr.{Expr}
use Rattle.f77_tree.specs.declared.form.DataConst.{DataConst}
use Rattle.f77_tree.specs.declared.form.Declarator.{Declarator}
use Rattle.f77_tree.specs.declared.form.Form.{Form, fold-Form}
use Rattle.f77_tree.specs.declared.form.Form.TheOpen.{Form-F}
use Rattle.f77_tree.specs.declared.unit.Ty.{Ty}
use Rattle.f77_tree.specs.declared.unit.Ty.TheVariants.{Integer}
use Rattle.f77_tree.specs.declared.unit.Value.{Value}
use Rattle.f77_names.specs.declared.facts.Facts.{Facts}
use Rattle.f77_values.specs.Tables.{Name, Told}
use Rattle.f77_names.specs.Roles.{type_of}
use Rattle.check_types.specs.declared.places.Place.{Place}
use Rattle.check_types.specs.declared.places.Place.TheVariants.{Value as Valued, Actual, Named}
use Rattle.check_types.specs.declared.breaks.Rule.{Rule}
use Rattle.check_types.specs.declared.breaks.Rule.TheVariants.{Types, Subscripts, Scalars, Targets, Exponents}
use Rattle.f77_names.specs.Standings.{standing_of, is_array, is_scalar}
use Rattle.check_types.specs.WrongTypes.{differs, is_mistyped, integers, truths}
use Rattle.check_types.specs.Subscripts.{is_miscounted}
use Rattle.check_types.specs.Scalars.{is_misplaced}
use Rattle.check_types.specs.Targets.{target_type, is_no_element, is_no_variable}
use Rattle.check_types.specs.Exponents.{has_wrong_exponent}

-- An expression at its place.
abbrev pub part_breaks : Facts → Told Value → Rule → Place → Expr → Bool
part_breaks f named Types place e = is_mistyped f place e
part_breaks f named Subscripts place e = is_miscounted f e
part_breaks f named Scalars place e = is_misplaced f place e
part_breaks f named Targets place e = false
part_breaks f named Exponents place e = has_wrong_exponent named e

abbrev pub optional_breaks : Facts → Told Value → Rule → Place → Option Expr → Bool
optional_breaks f named rule place None = false
optional_breaks f named rule place (Some e) = part_breaks f named rule place e

-- A target by itself. It takes a value of the type that is wanted, if one is.
abbrev pub target_itself_breaks : Facts → Rule → Option Ty → Expr → Bool
target_itself_breaks f Types ty target = differs ty (target_type f target)
target_itself_breaks f Scalars ty target = is_no_element f target
target_itself_breaks f Targets ty target = is_no_variable f target
target_itself_breaks f _ ty target = false

-- A target of assignment or READ, with its subscripts.
abbrev pub target_breaks : Facts → Told Value → Rule → Option Ty → Expr → Bool
target_breaks f named rule ty target = target_itself_breaks f rule ty target || part_breaks f named rule Named target

-- The value of an assignment has the target's type.
abbrev pub assignment_breaks : Facts → Told Value → Rule → Expr → Expr → Bool
assignment_breaks f named rule target value = target_breaks f named rule None target || part_breaks f named rule (Valued (target_type f target)) value

-- The variable of a DO is an integer scalar.
abbrev pub variable_breaks : Facts → Rule → Name → Bool
variable_breaks f Types name = differs (Some Integer) (type_of f name)
variable_breaks f Scalars name = is_array (standing_of f name)
variable_breaks f Targets name = not (is_scalar (standing_of f name))
variable_breaks f _ name = false

-- The parts of a DO are integers.
abbrev pub control_breaks : Facts → Told Value → Rule → Expr → Expr → Option Expr → Bool
control_breaks f named rule from to step = part_breaks f named rule integers from || (part_breaks f named rule integers to || optional_breaks f named rule integers step)

abbrev pub bound_breaks : Facts → Told Value → Rule → Option Expr × Option Expr → Bool
bound_breaks f named rule bound = optional_breaks f named rule integers bound.0 || optional_breaks f named rule integers bound.1

abbrev pub declarator_breaks : Facts → Told Value → Rule → Declarator → Bool
declarator_breaks f named rule d = list_any (bound_breaks f named rule) d.bounds

abbrev pub block_breaks : Facts → Told Value → Rule → Name × List Declarator → Bool
block_breaks f named rule block = list_any (declarator_breaks f named rule) block.1

-- The value of a named constant has the constant's type.
abbrev pub definition_breaks : Facts → Told Value → Rule → Name × Expr → Bool
definition_breaks f named rule definition = part_breaks f named rule (Valued (type_of f definition.0)) definition.1

-- The items of DATA. Its constants are no expressions.
abbrev pub run_breaks : Facts → Told Value → Rule → List Expr × List DataConst → Bool
run_breaks f named rule run = list_any (part_breaks f named rule Named) run.0

abbrev pub form_step : Facts → Told Value → Rule → Form-F Bool → Bool
form_step f named rule (Form-F.Typed ty all) = list_any (declarator_breaks f named rule) all
form_step f named rule (Form-F.Dimension all) = list_any (declarator_breaks f named rule) all
form_step f named rule (Form-F.Common blocks) = list_any (block_breaks f named rule) blocks
form_step f named rule (Form-F.Parameter all) = list_any (definition_breaks f named rule) all
form_step f named rule (Form-F.DataRuns runs) = list_any (run_breaks f named rule) runs
form_step f named rule (Form-F.Assign target value) = assignment_breaks f named rule target value
form_step f named rule (Form-F.BlockIf test) = part_breaks f named rule truths test
form_step f named rule (Form-F.ElseIf test) = part_breaks f named rule truths test
form_step f named rule (Form-F.LogicalIf test inner) = part_breaks f named rule truths test || inner
form_step f named rule (Form-F.ArithmeticIf value a b c) = part_breaks f named rule integers value
form_step f named rule (Form-F.ComputedGoTo labels index) = part_breaks f named rule integers index
form_step f named rule (Form-F.Do label name from to step) = variable_breaks f rule name || control_breaks f named rule from to step
form_step f named rule (Form-F.Call name actuals) = list_any (part_breaks f named rule Actual) actuals
form_step f named rule (Form-F.Print items) = list_any (part_breaks f named rule (Valued None)) items
form_step f named rule (Form-F.Read targets) = list_any (target_breaks f named rule (Some Integer)) targets
form_step f named rule _ = false

abbrev pub form_breaks : Facts → Told Value → Rule → Form → Bool
form_breaks f named rule form = fold-Form Bool (form_step f named rule) form

-- Units whose literals have 64 bits.
use Rattle.std.specs.Prelude.{List, Option, Some, None, Bool, true, ◌&&◌}
use Rattle.std.specs.List.{list_all}
use Rattle.run_inputs.specs.Inputs.{is_word64}
use Rattle.f77_tree.specs.declared.expr.Expr.{Expr, fold-Expr}
use Rattle.f77_tree.specs.declared.expr.Expr.TheOpen.{Expr-F}
use Rattle.f77_tree.specs.declared.form.DataConst.{DataConst}
use Rattle.f77_tree.specs.declared.form.Declarator.{Declarator}
use Rattle.f77_tree.specs.declared.form.Form.{Form, out-Form}
use Rattle.f77_tree.specs.declared.form.Form.TheOpen.{Form-F}
use Rattle.f77_tree.specs.declared.unit.Unit.{Unit as SourceUnit}

abbrev pub literal_step : Expr-F Bool → Bool
literal_step (Expr-F.Int n) = is_word64 n
literal_step (Expr-F.Truth b) = true
literal_step (Expr-F.Text bytes) = true
literal_step (Expr-F.Scalar name) = true
literal_step (Expr-F.Apply name list) = list_all (λ e. e) list
literal_step (Expr-F.Paren e) = e
literal_step (Expr-F.Neg e) = e
literal_step (Expr-F.Plus e) = e
literal_step (Expr-F.Not e) = e
literal_step (Expr-F.Binary op a b) = a && b

-- each integer in an expression has 64 bits
abbrev pub has_word64 : Expr → Bool
has_word64 e = fold-Expr Bool literal_step e

abbrev pub optional_has_word64 : Option Expr → Bool
optional_has_word64 None = true
optional_has_word64 (Some e) = has_word64 e

abbrev pub bound_has_word64 : Option Expr × Option Expr → Bool
bound_has_word64 bound = optional_has_word64 bound.0 && optional_has_word64 bound.1

abbrev pub declarator_has_word64 : Declarator → Bool
declarator_has_word64 d = list_all bound_has_word64 d.bounds

abbrev pub data_has_word64 : List Expr × List DataConst → Bool
data_has_word64 run = list_all (λ c. has_word64 c.value) run.1

-- A repeat and a subscript in DATA are no values of cells.
abbrev pub simple_has_word64 : Form-F Form → Bool
simple_has_word64 (Form-F.Typed ty all) = list_all declarator_has_word64 all
simple_has_word64 (Form-F.Dimension all) = list_all declarator_has_word64 all
simple_has_word64 (Form-F.Common blocks) = list_all (λ block. list_all declarator_has_word64 block.1) blocks
simple_has_word64 (Form-F.Parameter definitions) = list_all (λ definition. has_word64 definition.1) definitions
simple_has_word64 (Form-F.DataRuns runs) = list_all data_has_word64 runs
simple_has_word64 (Form-F.Assign target value) = has_word64 target && has_word64 value
simple_has_word64 (Form-F.BlockIf test) = has_word64 test
simple_has_word64 (Form-F.ElseIf test) = has_word64 test
simple_has_word64 (Form-F.ArithmeticIf value a b c) = has_word64 value
simple_has_word64 (Form-F.ComputedGoTo labels index) = has_word64 index
simple_has_word64 (Form-F.Do label name from to step) = has_word64 from && (has_word64 to && optional_has_word64 step)
simple_has_word64 (Form-F.Call name actuals) = list_all has_word64 actuals
simple_has_word64 (Form-F.Print items) = list_all has_word64 items
simple_has_word64 (Form-F.Read targets) = list_all has_word64 targets
simple_has_word64 _ = true

-- each integer in a statement. A logical IF in another is no statement.
abbrev pub form_has_word64 : Form-F Form → Bool
form_has_word64 (Form-F.LogicalIf test inner) = has_word64 test && simple_has_word64 (out-Form inner)
form_has_word64 form = simple_has_word64 form

abbrev pub unit_has_word64 : SourceUnit → Bool
unit_has_word64 u = list_all (λ s. form_has_word64 (out-Form s.form)) u.statements

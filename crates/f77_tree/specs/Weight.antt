-- The weight of a unit: its statements, and the names, labels, integers, truth values, literals and operators in their parts.
use Rattle.std.specs.Prelude.{ℕ, ◌+◌, if◌then◌else◌, ◌==◌, List, Option, Some, None, length, sum, sum_by}
use Rattle.f77_tree.specs.declared.expr.Expr.{Expr, fold-Expr}
use Rattle.f77_tree.specs.declared.expr.Expr.TheOpen.{Expr-F}
use Rattle.f77_tree.specs.declared.form.Declarator.{Declarator}
use Rattle.f77_tree.specs.declared.form.DataConst.{DataConst}
use Rattle.f77_tree.specs.declared.form.Form.{Form, fold-Form}
use Rattle.f77_tree.specs.declared.form.Form.TheOpen.{Form-F}
use Rattle.f77_tree.specs.declared.unit.Stmt.{Stmt}
use Rattle.f77_tree.specs.declared.unit.Unit.{Unit}

-- Parentheses count none. A literal counts as one more than the bytes that it prints.
abbrev pub weight_step : Expr-F ℕ → ℕ
weight_step (Expr-F.Int n) = 1
weight_step (Expr-F.Truth b) = 1
weight_step (Expr-F.Text bytes) = 1 + length bytes
weight_step (Expr-F.Scalar name) = 1
weight_step (Expr-F.Apply name list) = 1 + sum list
weight_step (Expr-F.Paren e) = e
weight_step (Expr-F.Neg e) = 1 + e
weight_step (Expr-F.Plus e) = 1 + e
weight_step (Expr-F.Not e) = 1 + e
weight_step (Expr-F.Binary op a b) = 1 + a + b

abbrev pub weight : Expr → ℕ
weight = fold-Expr ℕ weight_step

abbrev pub optional_weight : Option Expr → ℕ
optional_weight None = 0
optional_weight (Some e) = weight e

abbrev pub bound_weight : Option Expr × Option Expr → ℕ
bound_weight bound = optional_weight bound.0 + optional_weight bound.1

abbrev pub declarator_weight : Declarator → ℕ
declarator_weight d = 1 + sum_by bound_weight d.bounds

-- the empty name of blank COMMON counts none
abbrev pub block_weight : List ℕ → ℕ
block_weight name = if length name == 0 then 0 else 1

abbrev pub common_weight : List ℕ × List Declarator → ℕ
common_weight block = block_weight block.0 + sum_by declarator_weight block.1

abbrev pub constant_weight : List ℕ × Expr → ℕ
constant_weight constant = 1 + weight constant.1

abbrev pub data_weight : DataConst → ℕ
data_weight c = optional_weight c.repeat + weight c.value

abbrev pub run_weight : List Expr × List DataConst → ℕ
run_weight run = sum_by weight run.0 + sum_by data_weight run.1

-- The words and letters of types count none. The statement inside a logical IF counts as one of its own.
abbrev pub form_step : Form-F ℕ → ℕ
form_step (Form-F.Head kind word name dummies) = 1 + length dummies
form_step (Form-F.Implicit rules) = 0
form_step Form-F.ImplicitNone = 0
form_step (Form-F.Typed ty all) = sum_by declarator_weight all
form_step (Form-F.Dimension all) = sum_by declarator_weight all
form_step (Form-F.Common blocks) = sum_by common_weight blocks
form_step (Form-F.Parameter all) = sum_by constant_weight all
form_step (Form-F.External names) = length names
form_step (Form-F.Intrinsic names) = length names
form_step (Form-F.Save names blocks) = length names + length blocks
form_step (Form-F.DataRuns runs) = sum_by run_weight runs
form_step (Form-F.Assign target value) = weight target + weight value
form_step (Form-F.BlockIf test) = weight test
form_step (Form-F.ElseIf test) = weight test
form_step Form-F.Else = 0
form_step Form-F.EndIf = 0
form_step (Form-F.LogicalIf test inner) = weight test + 1 + inner
form_step (Form-F.ArithmeticIf value a b c) = weight value + 3
form_step (Form-F.GoTo label) = 1
form_step (Form-F.ComputedGoTo labels index) = length labels + weight index
form_step (Form-F.Do label name from to step) = 2 + weight from + weight to + optional_weight step
form_step Form-F.Continue = 0
form_step Form-F.Return = 0
form_step Form-F.End = 0
form_step Form-F.Stop = 0
form_step (Form-F.Call name actuals) = 1 + sum_by weight actuals
form_step (Form-F.Print items) = sum_by weight items
form_step (Form-F.Read targets) = sum_by weight targets

abbrev pub form_weight : Form → ℕ
form_weight = fold-Form ℕ form_step

abbrev pub statement_weight : Stmt → ℕ
statement_weight s = 1 + form_weight s.form

abbrev pub unit_weight : Unit → ℕ
unit_weight u = sum_by statement_weight u.statements

-- a sum in 64 bits, which stands still at the greatest
abbrev pub most : ℕ
most = 18446744073709551615

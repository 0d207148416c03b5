-- The names of a unit in the order of its text, each with how it occurs.
use Rattle.std.specs.Prelude.{List, [], ◌∷◌, ◌++◌, Option, Some, None, Bool, true, false, if◌then◌else◌, ◌==◌, length, map, flat_map}
use Rattle.f77_tree.specs.declared.expr.Expr.{Expr, fold-Expr}
use Rattle.f77_tree.specs.declared.expr.Expr.TheOpen.{Expr-F}
use Rattle.f77_tree.specs.declared.form.Declarator.{Declarator}
use Rattle.f77_tree.specs.declared.form.DataConst.{DataConst}
use Rattle.f77_tree.specs.declared.form.Form.{Form, fold-Form}
use Rattle.f77_tree.specs.declared.form.Form.TheOpen.{Form-F}
use Rattle.f77_tree.specs.declared.unit.Stmt.{Stmt}
use Rattle.f77_tree.specs.declared.unit.Unit.{Unit}
use Rattle.f77_tree.specs.declared.unit.UnitKind.{UnitKind}
use Rattle.f77_tree.specs.declared.unit.UnitKind.TheVariants.{Function}
use Rattle.f77_names.specs.declared.occurrences.Manner.{Manner}
use Rattle.f77_names.specs.declared.occurrences.Manner.TheVariants.{ResultName, Dummy, Dimensioned, Defined, External, Intrinsic, Called, Listed, Plain}
use Rattle.f77_names.specs.declared.occurrences.Occurrence.{Occurrence}
use Rattle.f77_values.specs.Tables.{Name}

abbrev pub Occurrences : Type 0
Occurrences = List Occurrence

abbrev pub occurs : Manner → Name → Occurrence
occurs manner name = record { name = name; manner = manner }

-- A name with a list stands before the names in its list.
abbrev pub expr_step : Expr-F Occurrences → Occurrences
expr_step (Expr-F.Int n) = []
expr_step (Expr-F.Truth b) = []
expr_step (Expr-F.Text bytes) = []
expr_step (Expr-F.Scalar name) = occurs Plain name ∷ []
expr_step (Expr-F.Apply name list) = occurs Listed name ∷ flat_map (λ all. all) list
expr_step (Expr-F.Paren e) = e
expr_step (Expr-F.Neg e) = e
expr_step (Expr-F.Plus e) = e
expr_step (Expr-F.Not e) = e
expr_step (Expr-F.Binary op a b) = a ++ b

abbrev pub in_expr : Expr → Occurrences
in_expr = fold-Expr Occurrences expr_step

abbrev pub in_optional : Option Expr → Occurrences
in_optional None = []
in_optional (Some e) = in_expr e

abbrev pub in_bound : Option Expr × Option Expr → Occurrences
in_bound bound = in_optional bound.0 ++ in_optional bound.1

abbrev pub declared_manner : List (Option Expr × Option Expr) → Manner
declared_manner bounds = if length bounds == 0 then Plain else Dimensioned

abbrev pub in_declarator : Declarator → Occurrences
in_declarator d = occurs (declared_manner d.bounds) d.name ∷ flat_map in_bound d.bounds

-- the name of a block doesn't count
abbrev pub in_block : Name × List Declarator → Occurrences
in_block block = flat_map in_declarator block.1

abbrev pub in_definition : Name × Expr → Occurrences
in_definition definition = occurs Defined definition.0 ∷ in_expr definition.1

abbrev pub in_constant : DataConst → Occurrences
in_constant c = in_optional c.repeat ++ in_expr c.value

abbrev pub in_run : List Expr × List DataConst → Occurrences
in_run run = flat_map in_expr run.0 ++ flat_map in_constant run.1

-- The names of a head are those of the unit, below.
abbrev pub form_step : Form-F Occurrences → Occurrences
form_step (Form-F.Head kind word name dummies) = []
form_step (Form-F.Implicit rules) = []
form_step Form-F.ImplicitNone = []
form_step (Form-F.Typed ty all) = flat_map in_declarator all
form_step (Form-F.Dimension all) = flat_map in_declarator all
form_step (Form-F.Common blocks) = flat_map in_block blocks
form_step (Form-F.Parameter all) = flat_map in_definition all
form_step (Form-F.External names) = map (occurs External) names
form_step (Form-F.Intrinsic names) = map (occurs Intrinsic) names
form_step (Form-F.Save names blocks) = map (occurs Plain) names
form_step (Form-F.DataRuns runs) = flat_map in_run runs
form_step (Form-F.Assign target value) = in_expr target ++ in_expr value
form_step (Form-F.BlockIf test) = in_expr test
form_step (Form-F.ElseIf test) = in_expr test
form_step Form-F.Else = []
form_step Form-F.EndIf = []
form_step (Form-F.LogicalIf test inner) = in_expr test ++ inner
form_step (Form-F.ArithmeticIf value a b c) = in_expr value
form_step (Form-F.GoTo label) = []
form_step (Form-F.ComputedGoTo labels index) = in_expr index
form_step (Form-F.Do label name from to step) = occurs Plain name ∷ (in_expr from ++ (in_expr to ++ in_optional step))
form_step Form-F.Continue = []
form_step Form-F.Return = []
form_step Form-F.End = []
form_step Form-F.Stop = []
form_step (Form-F.Call name actuals) = occurs Called name ∷ flat_map in_expr actuals
form_step (Form-F.Print items) = flat_map in_expr items
form_step (Form-F.Read targets) = flat_map in_expr targets

abbrev pub in_form : Form → Occurrences
in_form = fold-Form Occurrences form_step

abbrev pub in_statement : Stmt → Occurrences
in_statement s = in_form s.form

-- The name in a head counts where it is a function's.
abbrev pub own_name : UnitKind → Name → Occurrences
own_name Function name = occurs ResultName name ∷ []
own_name _ name = []

abbrev pub in_head : Unit → Occurrences
in_head u = own_name u.kind u.name ++ map (occurs Dummy) u.dummies

abbrev pub occurrences : Unit → Occurrences
occurrences u = in_head u ++ flat_map in_statement u.statements

abbrev pub is_manner : Manner → Manner → Bool
is_manner ResultName ResultName = true
is_manner Dummy Dummy = true
is_manner Dimensioned Dimensioned = true
is_manner Defined Defined = true
is_manner External External = true
is_manner Intrinsic Intrinsic = true
is_manner Called Called = true
is_manner Listed Listed = true
is_manner Plain Plain = true
is_manner _ _ = false

abbrev pub named_if : Manner → Occurrence → List Name
named_if manner o = if is_manner manner o.manner then o.name ∷ [] else []

-- the names that occur in this manner, as often as they do
abbrev pub names_that : Manner → Occurrences → List Name
names_that manner all = flat_map (named_if manner) all

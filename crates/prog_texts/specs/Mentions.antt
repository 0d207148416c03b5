-- The sites of a unit (ANSI X3.9-1978, sections 15.5 and 15.6), and what else its text says to the program.
use Rattle.std.specs.Prelude.{◌≡◌, ℕ, List, [], ◌∷◌, ◌++◌, Option, Some, None, Bool, true, false, not, ◌&&◌, ◌||◌, if◌then◌else◌, map, flat_map}
use Rattle.f77_tree.specs.declared.expr.Expr.{Expr, out-Expr, roll-Expr, fold-Expr}
use Rattle.f77_tree.specs.declared.expr.Expr.TheFolds.{map-Expr}
use Rattle.f77_tree.specs.declared.expr.Expr.TheOpen.{Expr-F}
use Rattle.f77_tree.specs.declared.form.Declarator.{Declarator}
use Rattle.f77_tree.specs.declared.form.DataConst.{DataConst}
use Rattle.f77_tree.specs.declared.form.Form.{Form, fold-Form}
use Rattle.f77_tree.specs.declared.form.Form.TheOpen.{Form-F}
use Rattle.f77_tree.specs.declared.unit.Stmt.{Stmt}
use Rattle.f77_tree.specs.declared.unit.Unit.{Unit}
use Rattle.f77_names.specs.declared.attributes.Attributes.{Attributes}
use Rattle.f77_names.specs.declared.facts.Facts.{Facts}
use Rattle.f77_values.specs.Tables.{Name, is_among}
use Rattle.f77_names.specs.Roles.{facts, is_function, type_of}
use Rattle.check_types.specs.ExpressionTypes.{expression_type}
use Rattle.prog_texts.specs.declared.mentions.Wanted.{Wanted}
use Rattle.prog_texts.specs.declared.mentions.Wanted.TheVariants.{Subroutine, Function}
use Rattle.prog_texts.specs.declared.mentions.Actual.{Actual}
use Rattle.prog_texts.specs.declared.mentions.Site.{Site as CallSite}
use Rattle.prog_texts.specs.declared.mentions.Mention.{Mention}
use Rattle.prog_texts.specs.declared.mentions.Mention.TheVariants.{Site, Block, DummyProcedure}

-- ---- actuals

-- the name of an array
abbrev pub is_array : Facts → Expr-F Expr → Bool
is_array f (Expr-F.Scalar name) = is_among f.attributes.arrays name
is_array f _ = false

abbrev pub is_element : Facts → Expr-F Expr → Bool
is_element f (Expr-F.Apply name list) = is_among f.attributes.arrays name
is_element f _ = false

-- a name that stands in EXTERNAL or INTRINSIC
abbrev pub is_procedure : Facts → Expr-F Expr → Bool
is_procedure f (Expr-F.Scalar name) = is_among f.attributes.external name || is_among f.attributes.intrinsic name
is_procedure f _ = false

abbrev pub actual : Facts → Expr → Actual
actual f e = record {
  is_array = is_array f (out-Expr e);
  is_element = is_element f (out-Expr e);
  is_procedure = is_procedure f (out-Expr e);
  ty = expression_type f e;
}

-- ---- sites

abbrev pub site : Facts → ℕ → Wanted → Name → List Expr → Mention
site f line wanted name es = Site (record { line = line; callee = name; wanted = wanted; actuals = map (actual f) es })

-- a dummy, and no array
abbrev pub is_dummy_procedure : Attributes → Name → Bool
is_dummy_procedure a name = is_among a.dummies name && not (is_among a.arrays name)

abbrev pub dummy_procedure : Bool → ℕ → List Mention
dummy_procedure dummy line = if dummy then DummyProcedure line ∷ [] else []

-- A name with a list is a reference to a function where it has this role. A dummy with a list that is no array is no site.
abbrev pub reference : Facts → ℕ → Name → List Expr → List Mention
reference f line name es =
    if is_function f.attributes name then site f line (Function (type_of f name)) name es ∷ []
    else dummy_procedure (is_dummy_procedure f.attributes name) line

-- A CALL is a site, also of a dummy.
abbrev pub call : Facts → ℕ → Name → List Expr → List Mention
call f line name es = site f line Subroutine name es ∷ dummy_procedure (is_among f.attributes.dummies name) line

-- an expression, and what it says
pub record Seen : Type 0 where
  pub expression : Expr
  pub says : List Mention

-- A function's site stands before those of its actuals.
abbrev pub expr_says : Facts → ℕ → Expr-F Seen → List Mention
expr_says f line (Expr-F.Int n) = []
expr_says f line (Expr-F.Truth b) = []
expr_says f line (Expr-F.Text bytes) = []
expr_says f line (Expr-F.Scalar name) = []
expr_says f line (Expr-F.Apply name list) = reference f line name (map (λ s. s.expression) list) ++ flat_map (λ s. s.says) list
expr_says f line (Expr-F.Paren e) = e.says
expr_says f line (Expr-F.Neg e) = e.says
expr_says f line (Expr-F.Plus e) = e.says
expr_says f line (Expr-F.Not e) = e.says
expr_says f line (Expr-F.Binary op a b) = a.says ++ b.says

abbrev pub seen_step : Facts → ℕ → Expr-F Seen → Seen
seen_step f line x = record { expression = roll-Expr (map-Expr Seen Expr (λ s. s.expression) x); says = expr_says f line x }

abbrev pub in_expr : Facts → ℕ → Expr → List Mention
in_expr f line e = (fold-Expr Seen (seen_step f line) e).says

abbrev pub in_optional : Facts → ℕ → Option Expr → List Mention
in_optional f line None = []
in_optional f line (Some e) = in_expr f line e

abbrev pub in_bound : Facts → ℕ → Option Expr × Option Expr → List Mention
in_bound f line bound = in_optional f line bound.0 ++ in_optional f line bound.1

abbrev pub in_declarator : Facts → ℕ → Declarator → List Mention
in_declarator f line d = flat_map (in_bound f line) d.bounds

abbrev pub block : Name → ℕ → Mention
block name line = Block name line

abbrev pub in_block : Facts → ℕ → Name × List Declarator → List Mention
in_block f line b = block b.0 line ∷ flat_map (in_declarator f line) b.1

abbrev pub in_definition : Facts → ℕ → Name × Expr → List Mention
in_definition f line definition = in_expr f line definition.1

abbrev pub in_external : Facts → ℕ → Name → List Mention
in_external f line name = dummy_procedure (is_among f.attributes.dummies name) line

abbrev pub in_constant : Facts → ℕ → DataConst → List Mention
in_constant f line c = in_optional f line c.repeat ++ in_expr f line c.value

abbrev pub in_run : Facts → ℕ → List Expr × List DataConst → List Mention
in_run f line run = flat_map (in_expr f line) run.0 ++ flat_map (in_constant f line) run.1

abbrev pub form_step : Facts → ℕ → Form-F (List Mention) → List Mention
form_step f line (Form-F.Head kind word name dummies) = []
form_step f line (Form-F.Implicit rules) = []
form_step f line Form-F.ImplicitNone = []
form_step f line (Form-F.Typed ty all) = flat_map (in_declarator f line) all
form_step f line (Form-F.Dimension all) = flat_map (in_declarator f line) all
form_step f line (Form-F.Common blocks) = flat_map (in_block f line) blocks
form_step f line (Form-F.Parameter all) = flat_map (in_definition f line) all
form_step f line (Form-F.External names) = flat_map (in_external f line) names
form_step f line (Form-F.Intrinsic names) = []
form_step f line (Form-F.Save names blocks) = []
form_step f line (Form-F.DataRuns runs) = flat_map (in_run f line) runs
form_step f line (Form-F.Assign target value) = in_expr f line target ++ in_expr f line value
form_step f line (Form-F.BlockIf test) = in_expr f line test
form_step f line (Form-F.ElseIf test) = in_expr f line test
form_step f line Form-F.Else = []
form_step f line Form-F.EndIf = []
form_step f line (Form-F.LogicalIf test inner) = in_expr f line test ++ inner
form_step f line (Form-F.ArithmeticIf value a b c) = in_expr f line value
form_step f line (Form-F.GoTo label) = []
form_step f line (Form-F.ComputedGoTo labels index) = in_expr f line index
form_step f line (Form-F.Do label name from to step) = in_expr f line from ++ (in_expr f line to ++ in_optional f line step)
form_step f line Form-F.Continue = []
form_step f line Form-F.Return = []
form_step f line Form-F.End = []
form_step f line Form-F.Stop = []
form_step f line (Form-F.Call name actuals) = call f line name actuals ++ flat_map (in_expr f line) actuals
form_step f line (Form-F.Print items) = flat_map (in_expr f line) items
form_step f line (Form-F.Read targets) = flat_map (in_expr f line) targets

abbrev pub in_form : Facts → ℕ → Form → List Mention
in_form f line = fold-Form (List Mention) (form_step f line)

abbrev pub in_statement : Facts → Stmt → List Mention
in_statement f s = in_form f s.line s.form

-- what the statements of a unit say, in the order of its text
abbrev pub mentions_with : Facts → Unit → List Mention
mentions_with f u = flat_map (in_statement f) u.statements

abbrev pub mentions : Unit → List Mention
mentions u = mentions_with (facts u) u

abbrev pub site_of : Mention → List CallSite
site_of (Site s) = s ∷ []
site_of _ = []

-- the sites of a unit, in the order in which the callees' names stand in its text
abbrev pub sites : Unit → List CallSite
sites u = flat_map site_of (mentions u)

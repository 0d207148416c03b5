-- Literals of characters, which a text gives as items of PRINT alone, and RETURN, which it gives in subprograms alone.
use Rattle.std.specs.Prelude.{Bool, true, false, ◌||◌, Option, Some, None}
use Rattle.std.specs.List.{list_any}
use Rattle.f77_tree.specs.declared.expr.Expr.{Expr, out-Expr, fold-Expr}
use Rattle.f77_tree.specs.declared.expr.Expr.TheOpen.{Expr-F}
use Rattle.f77_tree.specs.declared.form.Form.{Form, out-Form, fold-Form}
use Rattle.f77_tree.specs.declared.form.Form.TheOpen.{Form-F}

abbrev pub text_step : Expr-F Bool → Bool
text_step (Expr-F.Int n) = false
text_step (Expr-F.Truth b) = false
text_step (Expr-F.Text bytes) = true
text_step (Expr-F.Scalar name) = false
text_step (Expr-F.Apply name list) = list_any (λ e. e) list
text_step (Expr-F.Paren e) = e
text_step (Expr-F.Neg e) = e
text_step (Expr-F.Plus e) = e
text_step (Expr-F.Not e) = e
text_step (Expr-F.Binary op a b) = a || b

abbrev pub has_text : Expr → Bool
has_text e = fold-Expr Bool text_step e

-- A literal by itself is an item.
abbrev pub item_has : Expr-F Expr → Bool → Bool
item_has (Expr-F.Text bytes) inside = false
item_has _ inside = inside

abbrev pub item_has_text : Expr → Bool
item_has_text e = item_has (out-Expr e) (has_text e)

abbrev pub optional_text : Option Expr → Bool
optional_text None = false
optional_text (Some e) = has_text e

-- a literal in a statement, elsewhere than as an item of PRINT
abbrev pub form_text_step : Form-F Bool → Bool
form_text_step (Form-F.Assign target value) = has_text target || has_text value
form_text_step (Form-F.BlockIf test) = has_text test
form_text_step (Form-F.ElseIf test) = has_text test
form_text_step (Form-F.LogicalIf test inner) = has_text test || inner
form_text_step (Form-F.ArithmeticIf value a b c) = has_text value
form_text_step (Form-F.ComputedGoTo labels index) = has_text index
form_text_step (Form-F.Do label name from to step) = has_text from || (has_text to || optional_text step)
form_text_step (Form-F.Call name actuals) = list_any has_text actuals
form_text_step (Form-F.Print items) = list_any item_has_text items
form_text_step (Form-F.Read targets) = list_any has_text targets
form_text_step _ = false

abbrev pub form_has_text : Form → Bool
form_has_text form = fold-Form Bool form_text_step form

-- RETURN, by itself or in a logical IF
abbrev pub return_step : Form-F Bool → Bool
return_step Form-F.Return = true
return_step (Form-F.LogicalIf test inner) = inner
return_step _ = false

abbrev pub returns_in : Form → Bool
returns_in form = fold-Form Bool return_step form

-- what a logical IF may have for its statement
abbrev pub is_action : Form-F Form → Bool
is_action (Form-F.Assign target value) = true
is_action (Form-F.ArithmeticIf value a b c) = true
is_action (Form-F.GoTo label) = true
is_action (Form-F.ComputedGoTo labels index) = true
is_action Form-F.Continue = true
is_action Form-F.Return = true
is_action Form-F.Stop = true
is_action (Form-F.Call name actuals) = true
is_action (Form-F.Print items) = true
is_action (Form-F.Read targets) = true
is_action _ = false

abbrev pub guards_action : Form-F Form → Bool
guards_action (Form-F.LogicalIf test inner) = is_action (out-Form inner)
guards_action _ = true

-- What every form is that a text has: literals of characters are items of PRINT, and a logical IF has an action.
use Rattle.std.proofs.Common.{◌≡◌, ℕ, Bool, true, false, ◌||◌, Option, Some, List, [], ◌∷◌, refl, sym, ap, ◌∙◌, subst, rules}
use Rattle.std.specs.List.{list_any}
use Rattle.f77_tree.specs.declared.expr.Expr as expressions
use Rattle.f77_tree.specs.declared.expr.Expr.{Expr, out-Expr, roll-Expr, out-roll-Expr, ind-Expr, fold-roll-Expr}
use Rattle.f77_tree.specs.declared.expr.Expr.TheFolds.{map-Expr}
use Rattle.f77_tree.specs.declared.expr.Expr.TheOpen.{Expr-F}
use Rattle.f77_tree.specs.declared.expr.Expr.TheVariants as e
use Rattle.f77_tree.specs.declared.form.Form.{Form, out-Form, the_lemmas}
use Rattle.f77_tree.specs.declared.form.Form.TheOpen.{Form-F}
use Rattle.f77_tree.specs.declared.form.Form.TheVariants as f
use Rattle.f77_expr.specs.Kinds.{Tokens}
use Rattle.f77_expr.specs.Grammar.{ReadsExpression}
use Rattle.form_kinds.specs.declared.keywords.Keyword.{Keyword}
use Rattle.form_kinds.specs.declared.keywords.Keyword.TheVariants as word
use Rattle.form_kinds.specs.declared.statement_kinds.StatementKind.{StatementKind}
use Rattle.form_kinds.specs.declared.statement_kinds.StatementKind.TheVariants as kind
use Rattle.form_execution.specs.Assignment.{IsAssignment}
use Rattle.form_execution.specs.Control.{IsRange, by_one, by_step}
use Rattle.f77_forms.specs.Forms.{HasForm, plain, logical_if, KindForm, is_action_at as may_stand_at, IsWorded, head, by_word, WordForm}
use Rattle.f77_forms.specs.HeadForms as h
use Rattle.form_execution.specs.InputOutput.{IsItem, value as by_value, literal as by_literal, IsPrint, alone as printed_alone, listed as printed_list}
use Rattle.form_parts.specs.Listed.{Listed, last, more}
use Rattle.form_parts.specs.Parts.{IsVariable, plain as by_name, element}
use Rattle.form_execution.specs.Transfer as x
use Rattle.sound_units.specs.Texts.{text_step, has_text, item_has, item_has_text, optional_text, form_has_text, is_action, guards_action}
use Rattle.sound_units.proofs.Lists.{or_left, or_right, any-map}
use Rattle.sound_texts.proofs.Expressions.{neither, text_Apply, text_Scalar, none_read}

pub record Textual (form : Form) : Type 0 where
  pub texts : form_has_text form ≡ false
  pub guards : guards_action (out-Form form) ≡ true

as_whole : (form whole : Form) → form ≡ whole → form_has_text whole ≡ false → guards_action (out-Form whole) ≡ true → Textual form
as_whole form whole made t g = record { texts = ap form_has_text made ∙ t; guards = ap (λ (y : Form). guards_action (out-Form y)) made ∙ g }

-- ---- forms by their parts

text_Assign : (a b : Expr) → form_has_text (f.Assign a b) ≡ (has_text a || has_text b)
text_Assign a b = search (rules, the_lemmas)

text_Print : (all : List Expr) → form_has_text (f.Print all) ≡ list_any item_has_text all
text_Print all = search (rules, the_lemmas)

text_Read : (all : List Expr) → form_has_text (f.Read all) ≡ list_any has_text all
text_Read all = search (rules, the_lemmas)

text_Call : (name : List ℕ) (all : List Expr) → form_has_text (f.Call name all) ≡ list_any has_text all
text_Call name all = search (rules, the_lemmas)

text_Do : (label : ℕ) (name : List ℕ) (from to : Expr) (step : Option Expr) → form_has_text (f.Do label name from to step) ≡ (has_text from || (has_text to || optional_text step))
text_Do label name from to step = search (rules, the_lemmas)

text_ComputedGoTo : (labels : List ℕ) (index : Expr) → form_has_text (f.ComputedGoTo labels index) ≡ has_text index
text_ComputedGoTo labels index = search (rules, the_lemmas)

text_ElseIf : (test : Expr) → form_has_text (f.ElseIf test) ≡ has_text test
text_ElseIf test = search (rules, the_lemmas)

text_BlockIf : (test : Expr) → form_has_text (f.BlockIf test) ≡ has_text test
text_BlockIf test = search (rules, the_lemmas)

text_ArithmeticIf : (value : Expr) (a b c : ℕ) → form_has_text (f.ArithmeticIf value a b c) ≡ has_text value
text_ArithmeticIf value a b c = search (rules, the_lemmas)

text_LogicalIf : (test : Expr) (inner : Form) → form_has_text (f.LogicalIf test inner) ≡ (has_text test || form_has_text inner)
text_LogicalIf test inner = search (rules, the_lemmas)

guards_LogicalIf : (test : Expr) (inner : Form) → guards_action (out-Form (f.LogicalIf test inner)) ≡ is_action (out-Form inner)
guards_LogicalIf test inner = search (rules, the_lemmas)

-- ---- parts

listed_none : {ts s : Tokens} {all : List Expr} → Listed ReadsExpression ts all s → list_any has_text all ≡ false
listed_none (last {x = y} d eq) = ap (list_any has_text) eq ∙ neither (has_text y) false (none_read d) refl
listed_none (more {x = y} {others = others} d c l eq) = ap (list_any has_text) eq ∙ neither (has_text y) (list_any has_text others) (none_read d) (listed_none l)

variable_none : {ts s : Tokens} {y : Expr} → IsVariable ts y s → has_text y ≡ false
variable_none (by_name {name = name} n eq) = ap has_text eq ∙ text_Scalar name
variable_none (element {name = name} {subscripts = subscripts} n l eq) = ap has_text eq ∙ (text_Apply name subscripts ∙ listed_none l.listed)

variables_none : {ts s : Tokens} {all : List Expr} → Listed IsVariable ts all s → list_any has_text all ≡ false
variables_none (last {x = y} d eq) = ap (list_any has_text) eq ∙ neither (has_text y) false (variable_none d) refl
variables_none (more {x = y} {others = others} d c l eq) = ap (list_any has_text) eq ∙ neither (has_text y) (list_any has_text others) (variable_none d) (variables_none l)

no_item : (y : Expr-F Expr) → item_has y false ≡ false
no_item (Expr-F.Int v) = refl
no_item (Expr-F.Truth v) = refl
no_item (Expr-F.Text v) = refl
no_item (Expr-F.Scalar v) = refl
no_item (Expr-F.Apply v w) = refl
no_item (Expr-F.Paren v) = refl
no_item (Expr-F.Neg v) = refl
no_item (Expr-F.Plus v) = refl
no_item (Expr-F.Not v) = refl
no_item (Expr-F.Binary o v w) = refl

literal_item : (bytes : List ℕ) → item_has_text (e.Text bytes) ≡ false
literal_item bytes = search (rules, expressions.the_lemmas)

item_none : {ts s : Tokens} {y : Expr} → IsItem ts y s → item_has_text y ≡ false
item_none {y = y} (by_value d) = ap (item_has (out-Expr y)) (none_read d) ∙ no_item (out-Expr y)
item_none (by_literal bytes front eq) = ap item_has_text eq ∙ literal_item bytes

items_none : {ts s : Tokens} {all : List Expr} → Listed IsItem ts all s → list_any item_has_text all ≡ false
items_none (last {x = y} d eq) = ap (list_any item_has_text) eq ∙ neither (item_has_text y) false (item_none d) refl
items_none (more {x = y} {others = others} d c l eq) = ap (list_any item_has_text) eq ∙ neither (item_has_text y) (list_any item_has_text others) (item_none d) (items_none l)

-- ---- forms of one kind

assigned : (ts : Tokens) (form : Form) → IsAssignment ts form → Textual form
assigned ts form h = as_whole form (f.Assign h.target h.value) h.made (text_Assign h.target h.value ∙ neither (has_text h.target) (has_text h.value) (variable_none h.assigned) (none_read h.reads.reads)) (search (rules, the_lemmas))

printed : (ts : Tokens) (form : Form) → IsPrint ts form → Textual form
printed ts form (printed_alone s m) = as_whole form (f.Print []) m (search (rules, the_lemmas)) (search (rules, the_lemmas))
printed ts form (printed_list behind rest items s c l m) = as_whole form (f.Print items) m (text_Print items ∙ items_none l) (search (rules, the_lemmas))

record RangeNone (parts : Expr × Expr × Option Expr) : Type 0 where
  low : has_text parts.0 ≡ false
  high : has_text parts.1 ≡ false
  step : optional_text parts.2 ≡ false

range_none : (ts : Tokens) (parts : Expr × Expr × Option Expr) → IsRange ts parts → RangeNone parts
range_none ts parts (by_one from to l eq) =
    let all = listed_none l in
    let two = or_right (has_text from) _ all in record {
      low = ap (λ (p : Expr × Expr × Option Expr). has_text p.0) eq ∙ or_left _ (list_any has_text (to ∷ [])) all;
      high = ap (λ (p : Expr × Expr × Option Expr). has_text p.1) eq ∙ or_left _ (list_any has_text []) two;
      step = ap (λ (p : Expr × Expr × Option Expr). optional_text p.2) eq;
    }
range_none ts parts (by_step from to step l eq) =
    let all = listed_none l in
    let two = or_right (has_text from) _ all in
    let three = or_right (has_text to) _ two in record {
      low = ap (λ (p : Expr × Expr × Option Expr). has_text p.0) eq ∙ or_left _ (list_any has_text (to ∷ step ∷ [])) all;
      high = ap (λ (p : Expr × Expr × Option Expr). has_text p.1) eq ∙ or_left _ (list_any has_text (step ∷ [])) two;
      step = ap (λ (p : Expr × Expr × Option Expr). optional_text p.2) eq ∙ or_left _ (list_any has_text []) three;
    }

looped : (label : ℕ) (name : List ℕ) (ts : Tokens) (parts : Expr × Expr × Option Expr) (form : Form) → IsRange ts parts → form ≡ f.Do label name parts.0 parts.1 parts.2 → Textual form
looped label name ts parts form h made =
    let r = range_none ts parts h in
    as_whole form (f.Do label name parts.0 parts.1 parts.2) made
    (text_Do label name parts.0 parts.1 parts.2 ∙ neither (has_text parts.0) (has_text parts.1 || optional_text parts.2) r.low (neither (has_text parts.1) (optional_text parts.2) r.high r.step)) (search (rules, the_lemmas))

transferred : (ts : Tokens) (form : Form) → x.IsGoTo ts form → Textual form
transferred ts form (x.plain p) = as_whole form (f.GoTo p.label) p.made (search (rules, the_lemmas)) (search (rules, the_lemmas))
transferred ts form (x.computed p) = as_whole form (f.ComputedGoTo p.labels p.index) p.made (text_ComputedGoTo p.labels p.index ∙ none_read p.reads.reads) (search (rules, the_lemmas))

some_form : (form whole : Form) → Some whole ≡ Some form → form ≡ whole
some_form form whole e = cc

-- an expression by its layer
opened_at : (y : Expr-F Expr) → has_text (roll-Expr y) ≡ text_step (map-Expr Expr Bool has_text (out-Expr (roll-Expr y)))
opened_at y = fold-roll-Expr Bool text_step y ∙ ap (λ z. text_step (map-Expr Expr Bool has_text z)) (sym (out-roll-Expr y))

abbrev Opened : Expr → Type 0
Opened y = has_text y ≡ text_step (map-Expr Expr Bool has_text (out-Expr y))

opened : (y : Expr) → Opened y
opened = ind-Expr Opened (λ y z is. opened_at y)

called : (y : Expr-F Expr) (form : Form) → x.call_at y ≡ Some form → text_step (map-Expr Expr Bool has_text y) ≡ false → Textual form
called (Expr-F.Scalar name) form m t = as_whole form (f.Call name []) (some_form form _ m) (search (rules, the_lemmas)) (search (rules, the_lemmas))
called (Expr-F.Apply name actuals) form m t = as_whole form (f.Call name actuals) (some_form form _ m) (text_Call name actuals ∙ (sym (any-map (λ (b : Bool). b) has_text actuals) ∙ t)) (search (rules, the_lemmas))
called (Expr-F.Int v) form m t = absurd (cc)
called (Expr-F.Truth v) form m t = absurd (cc)
called (Expr-F.Text v) form m t = absurd (cc)
called (Expr-F.Paren v) form m t = absurd (cc)
called (Expr-F.Neg v) form m t = absurd (cc)
called (Expr-F.Plus v) form m t = absurd (cc)
called (Expr-F.Not v) form m t = absurd (cc)
called (Expr-F.Binary o v w) form m t = absurd (cc)

headed : (text : List ℕ) (form : Form) → h.IsHeadForm text form → Textual form
headed text form (h.program p) = as_whole form _ p.made (search (rules, the_lemmas)) (search (rules, the_lemmas))
headed text form (h.subroutine (h.bare name e w m)) = as_whole form _ m (search (rules, the_lemmas)) (search (rules, the_lemmas))
headed text form (h.subroutine (h.listed rest parts e l m)) = as_whole form _ m (search (rules, the_lemmas)) (search (rules, the_lemmas))
headed text form (h.function g) = as_whole form _ g.made (search (rules, the_lemmas)) (search (rules, the_lemmas))
headed text form (h.block (h.named name e w m)) = as_whole form _ m (search (rules, the_lemmas)) (search (rules, the_lemmas))
headed text form (h.block (h.nameless e m)) = as_whole form _ m (search (rules, the_lemmas)) (search (rules, the_lemmas))

begun : (w : Keyword) (ts : Tokens) (form : Form) → WordForm w ts form → Textual form
begun word.ImplicitNone ts form h = as_whole form _ h.made (search (rules, the_lemmas)) (search (rules, the_lemmas))
begun word.Implicit ts form h = as_whole form _ h.made (search (rules, the_lemmas)) (search (rules, the_lemmas))
begun word.Integer ts form h = as_whole form _ h.made (search (rules, the_lemmas)) (search (rules, the_lemmas))
begun word.Logical ts form h = as_whole form _ h.made (search (rules, the_lemmas)) (search (rules, the_lemmas))
begun word.Dimension ts form h = as_whole form _ h.made (search (rules, the_lemmas)) (search (rules, the_lemmas))
begun word.Common ts form h = as_whole form _ h.made (search (rules, the_lemmas)) (search (rules, the_lemmas))
begun word.Parameter ts form h = as_whole form _ h.made (search (rules, the_lemmas)) (search (rules, the_lemmas))
begun word.External ts form h = as_whole form _ h.made (search (rules, the_lemmas)) (search (rules, the_lemmas))
begun word.Intrinsic ts form h = as_whole form _ h.made (search (rules, the_lemmas)) (search (rules, the_lemmas))
begun word.Save ts form h = as_whole form _ h.made (search (rules, the_lemmas)) (search (rules, the_lemmas))
begun word.Data ts form h = as_whole form _ h.made (search (rules, the_lemmas)) (search (rules, the_lemmas))
begun word.ElseIf ts form h = as_whole form (f.ElseIf h.part) h.made (text_ElseIf h.part ∙ none_read h.is.condition.reads) (search (rules, the_lemmas))
begun word.Else ts form h = as_whole form _ h.made (search (rules, the_lemmas)) (search (rules, the_lemmas))
begun word.EndIf ts form h = as_whole form _ h.made (search (rules, the_lemmas)) (search (rules, the_lemmas))
begun word.End ts form h = as_whole form _ h.made (search (rules, the_lemmas)) (search (rules, the_lemmas))
begun word.GoTo ts form h = transferred ts form h
begun word.Continue ts form h = as_whole form _ h.made (search (rules, the_lemmas)) (search (rules, the_lemmas))
begun word.Return ts form h = as_whole form _ h.made (search (rules, the_lemmas)) (search (rules, the_lemmas))
begun word.Stop ts form h = as_whole form _ h.made (search (rules, the_lemmas)) (search (rules, the_lemmas))
begun word.Call ts form h = called (out-Expr h.x) form h.made (sym (opened h.x) ∙ none_read h.reads.reads)
begun word.Print ts form h = printed ts form h
begun word.Read ts form h = as_whole form (f.Read h.targets) h.made (text_Read h.targets ∙ variables_none h.listed) (search (rules, the_lemmas))

worded : (text : List ℕ) (form : Form) → IsWorded text form → Textual form
worded text form (head h) = headed text form h
worded text form (by_word w none known h) = begun w h.tokens form h.is

by_kind : (k : StatementKind) (text : List ℕ) (form : Form) → KindForm k text form → Textual form
by_kind kind.Assignment text form h = assigned h.tokens form h.is
by_kind kind.Do text form h = looped h.label h.name h.range.tokens h.parts form h.range.is h.made
by_kind kind.BlockIf text form h = as_whole form (f.BlockIf h.is.is.part) h.is.is.made (text_BlockIf h.is.is.part ∙ none_read h.is.is.is.condition.reads) (search (rules, the_lemmas))
by_kind kind.ArithmeticIf text form h = as_whole form (f.ArithmeticIf h.is.is.test h.is.is.negative h.is.is.null h.is.is.positive) h.is.is.made (text_ArithmeticIf h.is.is.test h.is.is.negative h.is.is.null h.is.is.positive ∙ none_read h.is.is.condition.reads) (search (rules, the_lemmas))
by_kind kind.LogicalIf text form h = absurd h
by_kind kind.Worded text form h = worded text form h

-- what may stand in a logical IF is an action
same_action : (y : Form-F Form) → may_stand_at y ≡ is_action y
same_action (Form-F.Assign target value) = refl
same_action (Form-F.ArithmeticIf value a b c) = refl
same_action (Form-F.GoTo label) = refl
same_action (Form-F.ComputedGoTo labels index) = refl
same_action Form-F.Continue = refl
same_action Form-F.Return = refl
same_action Form-F.Stop = refl
same_action (Form-F.Call name actuals) = refl
same_action (Form-F.Print items) = refl
same_action (Form-F.Read targets) = refl
same_action _ = refl

guarded : (test : Expr) (inner : Form) → has_text test ≡ false → Textual inner → may_stand_at (out-Form inner) ≡ true → Textual (f.LogicalIf test inner)
guarded test inner t h a = record {
  texts = text_LogicalIf test inner ∙ neither (has_text test) (form_has_text inner) t h.texts;
  guards = guards_LogicalIf test inner ∙ (sym (same_action (out-Form inner)) ∙ a);
}

pub textual : (text : List ℕ) (form : Form) → HasForm text form → Textual form
textual text form (plain p) = by_kind p.kind text form p.is
textual text form (logical_if k l) =
    let inner = by_kind l.is_inner.plain.kind l.statement l.inner l.is_inner.plain.is in
    subst Textual (sym l.made) (guarded l.test l.inner (none_read l.is_test.is.reads) inner l.is_inner.action)

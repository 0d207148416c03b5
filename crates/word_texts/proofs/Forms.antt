-- Every form that a text has has integers of 64 bits.
use Rattle.std.proofs.Common.{◌≡◌, ℕ, Bool, true, ◌&&◌, Option, Some, List, [], refl, sym, ap, ◌∙◌, rules}
use Rattle.std.specs.List.{list_all}
use Rattle.f77_tree.specs.declared.expr.Expr.{Expr, out-Expr, roll-Expr, out-roll-Expr, ind-Expr, fold-roll-Expr}
use Rattle.f77_tree.specs.declared.expr.Expr.TheFolds.{map-Expr}
use Rattle.f77_tree.specs.declared.expr.Expr.TheOpen.{Expr-F}
use Rattle.f77_tree.specs.declared.form.DataConst.{DataConst}
use Rattle.f77_tree.specs.declared.form.Declarator.{Declarator}
use Rattle.f77_tree.specs.declared.form.Form.{Form, out-Form, the_lemmas}
use Rattle.f77_tree.specs.declared.form.Form.TheOpen.{Form-F}
use Rattle.f77_tree.specs.declared.form.Form.TheVariants as f
use Rattle.f77_tree.specs.declared.unit.Ty.{Ty}
use Rattle.f77_expr.specs.Kinds.{Tokens}
use Rattle.f77_expr.specs.Grammar.{ReadsExpression}
use Rattle.form_kinds.specs.declared.keywords.Keyword.{Keyword}
use Rattle.form_kinds.specs.declared.keywords.Keyword.TheVariants as word
use Rattle.form_kinds.specs.declared.statement_kinds.StatementKind.{StatementKind}
use Rattle.form_kinds.specs.declared.statement_kinds.StatementKind.TheVariants as kind
use Rattle.form_parts.specs.Parts.{IsVariable}
use Rattle.form_execution.specs.Assignment.{IsAssignment}
use Rattle.form_execution.specs.Control.{IsRange, by_one, by_step}
use Rattle.form_execution.specs.InputOutput.{IsItem, IsPrint, alone as printed_alone, listed as printed_list}
use Rattle.form_execution.specs.Transfer as x
use Rattle.form_specification.specs.DataForms.{IsGroup}
use Rattle.form_specification.specs.Declarators.{IsDeclarator}
use Rattle.form_specification.specs.Specifications.{IsFirstEntry, IsEntry, IsConstant}
use Rattle.f77_forms.specs.Forms.{HasForm, plain, logical_if, KindForm, IsWorded, head, by_word, WordForm}
use Rattle.f77_forms.specs.HeadForms as h
use Rattle.word_laws.specs.Literals.{literal_step, has_word64, optional_has_word64, declarator_has_word64, data_has_word64, simple_has_word64, form_has_word64}
use Rattle.word_laws.proofs.Constants.{both}
use Rattle.word_texts.proofs.Tokens.{Small, lexed, behind, comma_small}
use Rattle.word_texts.proofs.Expressions.{join, all-map, read}
use Rattle.word_texts.proofs.Parts.{listed_all, inside_all, sequence_all, expression, anything, label, variable, item, condition, declarator, block_has, entry, first_entry, definition_has, definition, group}

abbrev pub Has : Form → Type 0
Has form = form_has_word64 (out-Form form) ≡ true

as_whole : (form whole : Form) → form ≡ whole → Has whole → Has form
as_whole form whole made h = ap (λ (y : Form). form_has_word64 (out-Form y)) made ∙ h

-- ---- forms by their parts

word_Assign : (a b : Expr) → form_has_word64 (out-Form (f.Assign a b)) ≡ (has_word64 a && has_word64 b)
word_Assign a b = search (rules, the_lemmas)

word_Print : (all : List Expr) → form_has_word64 (out-Form (f.Print all)) ≡ list_all has_word64 all
word_Print all = search (rules, the_lemmas)

word_Read : (all : List Expr) → form_has_word64 (out-Form (f.Read all)) ≡ list_all has_word64 all
word_Read all = search (rules, the_lemmas)

word_Call : (name : List ℕ) (all : List Expr) → form_has_word64 (out-Form (f.Call name all)) ≡ list_all has_word64 all
word_Call name all = search (rules, the_lemmas)

word_Do : (label : ℕ) (name : List ℕ) (from to : Expr) (step : Option Expr) → form_has_word64 (out-Form (f.Do label name from to step)) ≡ (has_word64 from && (has_word64 to && optional_has_word64 step))
word_Do label name from to step = search (rules, the_lemmas)

word_ComputedGoTo : (labels : List ℕ) (index : Expr) → form_has_word64 (out-Form (f.ComputedGoTo labels index)) ≡ has_word64 index
word_ComputedGoTo labels index = search (rules, the_lemmas)

word_ElseIf : (test : Expr) → form_has_word64 (out-Form (f.ElseIf test)) ≡ has_word64 test
word_ElseIf test = search (rules, the_lemmas)

word_BlockIf : (test : Expr) → form_has_word64 (out-Form (f.BlockIf test)) ≡ has_word64 test
word_BlockIf test = search (rules, the_lemmas)

word_ArithmeticIf : (value : Expr) (a b c : ℕ) → form_has_word64 (out-Form (f.ArithmeticIf value a b c)) ≡ has_word64 value
word_ArithmeticIf value a b c = search (rules, the_lemmas)

word_LogicalIf : (test : Expr) (inner : Form) → form_has_word64 (out-Form (f.LogicalIf test inner)) ≡ (has_word64 test && simple_has_word64 (out-Form inner))
word_LogicalIf test inner = search (rules, the_lemmas)

word_Typed : (ty : Ty) (all : List Declarator) → form_has_word64 (out-Form (f.Typed ty all)) ≡ list_all declarator_has_word64 all
word_Typed ty all = search (rules, the_lemmas)

word_Dimension : (all : List Declarator) → form_has_word64 (out-Form (f.Dimension all)) ≡ list_all declarator_has_word64 all
word_Dimension all = search (rules, the_lemmas)

word_Common : (blocks : List (List ℕ × List Declarator)) → form_has_word64 (out-Form (f.Common blocks)) ≡ list_all block_has blocks
word_Common blocks = search (rules, the_lemmas)

word_Parameter : (all : List (List ℕ × Expr)) → form_has_word64 (out-Form (f.Parameter all)) ≡ list_all definition_has all
word_Parameter all = search (rules, the_lemmas)

word_DataRuns : (runs : List (List Expr × List DataConst)) → form_has_word64 (out-Form (f.DataRuns runs)) ≡ list_all data_has_word64 runs
word_DataRuns runs = search (rules, the_lemmas)

-- ---- forms of one kind

assigned : (ts : Tokens) → Small ts → (form : Form) → IsAssignment ts form → Has form
assigned ts small form h =
    let a = variable ts h.rest h.target h.assigned small in
    let b = read h.reads.reads (behind h.equals a.1) in
    as_whole form (f.Assign h.target h.value) h.made (word_Assign h.target h.value ∙ join (has_word64 h.target) (has_word64 h.value) a.0 b.0)

printed : (ts : Tokens) → Small ts → (form : Form) → IsPrint ts form → Has form
printed ts small form (printed_alone s m) = as_whole form (f.Print []) m (word_Print [])
printed ts small form (printed_list behind_star rest items s c l m) = as_whole form (f.Print items) m (word_Print items ∙ (listed_all IsItem has_word64 item l (behind c (behind s small))).0)

record RangeHas (parts : Expr × Expr × Option Expr) : Type 0 where
  low : has_word64 parts.0 ≡ true
  high : has_word64 parts.1 ≡ true
  step : optional_has_word64 parts.2 ≡ true

range_has : (ts : Tokens) → Small ts → (parts : Expr × Expr × Option Expr) → IsRange ts parts → RangeHas parts
range_has ts small parts (by_one from to l eq) =
    let all = both (has_word64 from) _ (listed_all ReadsExpression has_word64 expression l small).0 in
    let two = both (has_word64 to) _ all.1 in record {
      low = ap (λ (p : Expr × Expr × Option Expr). has_word64 p.0) eq ∙ all.0;
      high = ap (λ (p : Expr × Expr × Option Expr). has_word64 p.1) eq ∙ two.0;
      step = ap (λ (p : Expr × Expr × Option Expr). optional_has_word64 p.2) eq;
    }
range_has ts small parts (by_step from to step l eq) =
    let all = both (has_word64 from) _ (listed_all ReadsExpression has_word64 expression l small).0 in
    let two = both (has_word64 to) _ all.1 in
    let three = both (has_word64 step) _ two.1 in record {
      low = ap (λ (p : Expr × Expr × Option Expr). has_word64 p.0) eq ∙ all.0;
      high = ap (λ (p : Expr × Expr × Option Expr). has_word64 p.1) eq ∙ two.0;
      step = ap (λ (p : Expr × Expr × Option Expr). optional_has_word64 p.2) eq ∙ three.0;
    }

looped : (label : ℕ) (name : List ℕ) (ts : Tokens) → Small ts → (parts : Expr × Expr × Option Expr) (form : Form) → IsRange ts parts → form ≡ f.Do label name parts.0 parts.1 parts.2 → Has form
looped label name ts small parts form h made =
    let r = range_has ts small parts h in
    as_whole form (f.Do label name parts.0 parts.1 parts.2) made
    (word_Do label name parts.0 parts.1 parts.2 ∙ join (has_word64 parts.0) (has_word64 parts.1 && optional_has_word64 parts.2) r.low (join (has_word64 parts.1) (optional_has_word64 parts.2) r.high r.step))

transferred : (ts : Tokens) → Small ts → (form : Form) → x.IsGoTo ts form → Has form
transferred ts small form (x.plain p) = as_whole form (f.GoTo p.label) p.made (search (rules, the_lemmas))
transferred ts small form (x.computed p) = as_whole form (f.ComputedGoTo p.labels p.index) p.made
    (word_ComputedGoTo p.labels p.index ∙ (read p.reads.reads (comma_small p.rest (inside_all x.IsLabel anything label ts p.rest p.labels p.listed small).1)).0)

some_form : (form whole : Form) → Some whole ≡ Some form → form ≡ whole
some_form form whole e = cc

-- an expression by its layer
opened_at : (y : Expr-F Expr) → has_word64 (roll-Expr y) ≡ literal_step (map-Expr Expr Bool has_word64 (out-Expr (roll-Expr y)))
opened_at y = fold-roll-Expr Bool literal_step y ∙ ap (λ z. literal_step (map-Expr Expr Bool has_word64 z)) (sym (out-roll-Expr y))

abbrev Opened : Expr → Type 0
Opened y = has_word64 y ≡ literal_step (map-Expr Expr Bool has_word64 (out-Expr y))

opened : (y : Expr) → Opened y
opened = ind-Expr Opened (λ y z is. opened_at y)

called : (y : Expr-F Expr) (form : Form) → x.call_at y ≡ Some form → literal_step (map-Expr Expr Bool has_word64 y) ≡ true → Has form
called (Expr-F.Scalar name) form m t = as_whole form (f.Call name []) (some_form form _ m) (word_Call name [])
called (Expr-F.Apply name actuals) form m t = as_whole form (f.Call name actuals) (some_form form _ m) (word_Call name actuals ∙ (sym (all-map (λ (b : Bool). b) has_word64 actuals) ∙ t))
called (Expr-F.Int v) form m t = absurd (cc)
called (Expr-F.Truth v) form m t = absurd (cc)
called (Expr-F.Text v) form m t = absurd (cc)
called (Expr-F.Paren v) form m t = absurd (cc)
called (Expr-F.Neg v) form m t = absurd (cc)
called (Expr-F.Plus v) form m t = absurd (cc)
called (Expr-F.Not v) form m t = absurd (cc)
called (Expr-F.Binary o v w) form m t = absurd (cc)

headed : (text : List ℕ) (form : Form) → h.IsHeadForm text form → Has form
headed text form (h.program p) = as_whole form _ p.made (search (rules, the_lemmas))
headed text form (h.subroutine (h.bare name e w m)) = as_whole form _ m (search (rules, the_lemmas))
headed text form (h.subroutine (h.listed rest parts e l m)) = as_whole form _ m (search (rules, the_lemmas))
headed text form (h.function g) = as_whole form _ g.made (search (rules, the_lemmas))
headed text form (h.block (h.named name e w m)) = as_whole form _ m (search (rules, the_lemmas))
headed text form (h.block (h.nameless e m)) = as_whole form _ m (search (rules, the_lemmas))

begun : (w : Keyword) (ts : Tokens) → Small ts → (form : Form) → WordForm w ts form → Has form
begun word.ImplicitNone ts small form h = as_whole form _ h.made (search (rules, the_lemmas))
begun word.Implicit ts small form h = as_whole form _ h.made (search (rules, the_lemmas))
begun word.Integer ts small form h = as_whole form _ h.made (word_Typed _ h.part ∙ (listed_all IsDeclarator declarator_has_word64 declarator h.is small).0)
begun word.Logical ts small form h = as_whole form _ h.made (word_Typed _ h.part ∙ (listed_all IsDeclarator declarator_has_word64 declarator h.is small).0)
begun word.Dimension ts small form h = as_whole form _ h.made (word_Dimension h.part ∙ (listed_all IsDeclarator declarator_has_word64 declarator h.is.declarators small).0)
begun word.Common ts small form h = as_whole form _ h.made (word_Common h.part ∙ sequence_all IsFirstEntry IsEntry block_has first_entry entry ts h.part h.is small)
begun word.Parameter ts small form h = as_whole form _ h.made (word_Parameter h.part ∙ (inside_all IsConstant definition_has definition ts [] h.part h.is small).0)
begun word.External ts small form h = as_whole form _ h.made (search (rules, the_lemmas))
begun word.Intrinsic ts small form h = as_whole form _ h.made (search (rules, the_lemmas))
begun word.Save ts small form h = as_whole form _ h.made (search (rules, the_lemmas))
begun word.Data ts small form h = as_whole form _ h.made (word_DataRuns h.part ∙ sequence_all IsGroup IsGroup data_has_word64 group group ts h.part h.is small)
begun word.ElseIf ts small form h = as_whole form (f.ElseIf h.part) h.made (word_ElseIf h.part ∙ (condition ts h.is.rest h.part h.is.condition small).0)
begun word.Else ts small form h = as_whole form _ h.made (search (rules, the_lemmas))
begun word.EndIf ts small form h = as_whole form _ h.made (search (rules, the_lemmas))
begun word.End ts small form h = as_whole form _ h.made (search (rules, the_lemmas))
begun word.GoTo ts small form h = transferred ts small form h
begun word.Continue ts small form h = as_whole form _ h.made (search (rules, the_lemmas))
begun word.Return ts small form h = as_whole form _ h.made (search (rules, the_lemmas))
begun word.Stop ts small form h = as_whole form _ h.made (search (rules, the_lemmas))
begun word.Call ts small form h = called (out-Expr h.x) form h.made (sym (opened h.x) ∙ (read h.reads.reads small).0)
begun word.Print ts small form h = printed ts small form h
begun word.Read ts small form h = as_whole form (f.Read h.targets) h.made (word_Read h.targets ∙ (listed_all IsVariable has_word64 variable h.listed (behind h.comma (behind h.star small))).0)

worded : (text : List ℕ) (form : Form) → IsWorded text form → Has form
worded text form (head h) = headed text form h
worded text form (by_word w none known h) = begun w h.tokens (lexed _ h.tokens h.cut) form h.is

by_kind : (k : StatementKind) (text : List ℕ) (form : Form) → KindForm k text form → Has form
by_kind kind.Assignment text form h = assigned h.tokens (lexed text h.tokens h.cut) form h.is
by_kind kind.Do text form h = looped h.label h.name h.range.tokens (lexed h.behind h.range.tokens h.range.cut) h.parts form h.range.is h.made
by_kind kind.BlockIf text form h =
    let i = h.is.is in
    as_whole form (f.BlockIf i.part) i.made (word_BlockIf i.part ∙ (condition h.is.tokens i.is.rest i.part i.is.condition (lexed h.rest h.is.tokens h.is.cut)).0)
by_kind kind.ArithmeticIf text form h =
    let i = h.is.is in
    as_whole form (f.ArithmeticIf i.test i.negative i.null i.positive) i.made (word_ArithmeticIf i.test i.negative i.null i.positive ∙ (condition h.is.tokens i.rest i.test i.condition (lexed h.rest h.is.tokens h.is.cut)).0)
by_kind kind.LogicalIf text form h = absurd h
by_kind kind.Worded text form h = worded text form h

simple : (y : Form-F Form) → form_has_word64 y ≡ true → simple_has_word64 y ≡ true
simple (Form-F.LogicalIf test inner) h = refl
simple y h = h

pub form_has : (text : List ℕ) (form : Form) → HasForm text form → Has form
form_has text form (plain p) = by_kind p.kind text form p.is
form_has text form (logical_if k l) =
    let inner = by_kind l.is_inner.plain.kind l.statement l.inner l.is_inner.plain.is in
    as_whole form (f.LogicalIf l.test l.inner) l.made
    (word_LogicalIf l.test l.inner ∙ join (has_word64 l.test) (simple_has_word64 (out-Form l.inner)) (read l.is_test.is.reads (lexed l.condition l.is_test.tokens l.is_test.cut)).0 (simple (out-Form l.inner) inner))

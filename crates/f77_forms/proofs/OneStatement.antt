-- A text has at most one form, whatever reads it.
use Rattle.std.proofs.Common.{◌≡◌, ℕ, true, false, List, [], Option, Some, None, ap, sym, ◌∙◌, subst, refl, arith}
use Rattle.f77_tree.specs.declared.expr.Expr.{Expr}
use Rattle.f77_tree.specs.declared.form.Form.{Form}
use Rattle.f77_tree.specs.declared.form.Form.TheVariants as f
use Rattle.f77_expr.specs.declared.token.Kind.TheVariants as k
use Rattle.f77_expr.specs.Spelling.{Text}
use Rattle.f77_expr.specs.Kinds.{Tokens, IsNext}
use Rattle.f77_expr.specs.Grammar.{ReadsExpression}
use Rattle.f77_expr.proofs.Unique.{lexes_same}
use Rattle.form_kinds.specs.declared.keywords.Keyword.{Keyword}
use Rattle.form_kinds.specs.declared.keywords.Keyword.TheVariants as word
use Rattle.form_kinds.specs.declared.statement_kinds.StatementKind.{StatementKind}
use Rattle.form_kinds.specs.declared.statement_kinds.StatementKind.TheVariants as kind
use Rattle.form_parts.specs.Answers.{InTokens, Made}
use Rattle.form_parts.specs.Only.{Follows, equals, OnlyPart, OnlyFront, Sole}
use Rattle.f77_forms.specs.HeadForms.{AreNamesIn, last_name, next_name, AreDummies, no_names, some_names, IsNamedList, IsSubroutine, bare, listed, IsFunction, IsBlock, named, nameless, first_byte, IsHeadForm, program, subroutine, function, block}
use Rattle.form_execution.specs.Control.{IsCondition, IsTest, IsRange, by_one, by_step, IsDoForm}
use Rattle.form_parts.specs.Parts.{IsExpression}
use Rattle.form_execution.specs.Transfer.{call_of, IsLabel, IsComputedGoTo, IsGoTo, plain, computed, IsArithmeticIf, IsCall}
use Rattle.form_execution.specs.InputOutput as io
use Rattle.form_execution.specs.InputOutput.{IsItem, IsPrint, IsRead}
use Rattle.form_execution.specs.Assignment.{IsAssignment}
use Rattle.f77_forms.specs.Forms as t
use Rattle.f77_forms.specs.Laws.{OneForm, OneKind}
use Rattle.form_kinds.specs.StatementKinds.{IsKind}
use Rattle.f77_tree.specs.Names.{is_name}
use Rattle.f77_tree.specs.declared.unit.UnitKind.TheVariants as unit
use Rattle.fixed_form.proofs.WordRuns.{word_same, name_word}
use Rattle.f77_forms.proofs.FormTables.{word_in}
use Rattle.f77_forms.specs.Forms.{WordForm, save_of, IsWorded, BehindIf, KindForm, HasPlainForm, is_action, HasAction, IsLogicalIf, HasForm}
use Rattle.form_parts.proofs.Following.{settles_at}
use Rattle.form_parts.proofs.NextToken.{next_shorter, same_rest}
use Rattle.form_parts.proofs.OneParts.{Readings, one_whole, one_enclosed, one_expression, one_variable}
use Rattle.form_specification.proofs.OneForms.{one_declarators, one_arrays, one_common, one_parameter, one_names, one_save, one_implicit, one_data}
use Rattle.form_parts.proofs.Fronts.{part_of_front}
use Rattle.form_parts.proofs.Answered.{sole_in, sole_tokens, sole_expression}
use Rattle.form_execution.proofs.Conditions.{sole_test, sole_two, sole_three, sole_do}
use Rattle.form_execution.proofs.Transfers.{label_no_open, label_front, sole_plain, sole_computed, go_plain, sole_arithmetic}
use Rattle.form_execution.proofs.InputsOutputs.{item_literal, no_text, sole_alone, sole_listed, sole_read, sole_assignment}
use Rattle.f77_forms.proofs.HeadParts.{names_last, names_more, sole_none, pair, list_stops, program_name, subroutine_rest, named_no_list, function_typed, function_cut, function_rest, block_rest, subroutine_first, block_first, only_program, only_subroutine, only_block, only_function, letters}
use Rattle.form_kinds.proofs.KindTests.{kind_same, if_same}

-- ---- parts

one_condition : Readings → {ts s : Tokens} {x : Expr} → IsCondition ts x s → OnlyFront IsCondition ts x s
one_condition laws {ts} {s} {x} c = record {
  part = c;
  shorter = omega (arith, next_shorter c.opens, laws.taken c.inside c.behind x c.reads, next_shorter c.closes);
  only = λ y z d. same y z d;
}
  where
    same : (y : Expr) (z : Tokens) → IsCondition ts y z → (y ≡ x) × (z ≡ s)
    same y z d =
        let start : d.inside ≡ c.inside = same_rest c.opens d.opens in
        let both = laws.settled c.inside d.behind c.behind y x (subst (λ t. ReadsExpression t y d.behind) start d.reads) (settles_at refl d.closes) c.reads (settles_at refl c.closes) in
        (both.0, same_rest c.closes (subst (λ t. IsNext t k.Close z) both.1 d.closes))

one_whole_expression : {ts : Tokens} {x : Expr} → IsExpression ts x → Sole IsExpression ts x
one_whole_expression is = sole_expression is.reads

one_label : (ts s : Tokens) (l : ℕ) → IsLabel ts l s → Follows true s → OnlyPart IsLabel true ts l s
one_label ts s l is follows = part_of_front (label_front is.front is.few is.small)

one_item : Readings → (ts s : Tokens) (x : Expr) → IsItem ts x s → Follows false s → OnlyPart IsItem false ts x s
one_item laws ts s x (io.value d) follows = record {
  part = io.value d;
  shorter = laws.taken ts s x d;
  only = λ y z i g. value_only y z i g;
}
  where
    value_only : (y : Expr) (z : Tokens) → IsItem ts y z → Follows false z → (y ≡ x) × (z ≡ s)
    value_only y z (io.value e) g = (one_expression laws ts s x d follows).only y z e g
    value_only y z (io.literal bytes front is) g = absurd (no_text d front)
one_item laws ts s x (io.literal bytes front is) follows = subst (λ x. OnlyPart IsItem false ts x s) (sym is) (item_literal front)

one_range : Readings → {ts : Tokens} {parts : Expr × Expr × Option Expr} → IsRange ts parts → Sole IsRange ts parts
one_range laws {ts} (by_one from to w is) = subst (λ p. Sole IsRange ts p) (sym is) (sole_two (one_whole ReadsExpression false (one_expression laws) w))
one_range laws {ts} (by_step from to step w is) = subst (λ p. Sole IsRange ts p) (sym is) (sole_three (one_whole ReadsExpression false (one_expression laws) w))

-- ---- statements of a word

one_go_to : Readings → {ts : Tokens} {form : Form} → IsGoTo ts form → Sole IsGoTo ts form
one_go_to laws {ts} (plain g) = subst (λ x. Sole IsGoTo ts x) (sym g.made) (go_plain (sole_plain (label_front g.is.front g.is.few g.is.small) refl))
one_go_to laws {ts} {form} (computed g) = record { is = computed g; only = λ y h. other y h }
  where
    one : Sole IsComputedGoTo ts form
    one = subst (λ x. Sole IsComputedGoTo ts x) (sym g.made) (sole_computed (one_enclosed IsLabel true one_label g.listed) (one_whole_expression g.reads))

    other : (y : Form) → IsGoTo ts y → y ≡ form
    other y (plain h) = absurd (label_no_open h.is g.listed.opens)
    other y (computed h) = one.only y h

one_arithmetic : Readings → {ts : Tokens} {form : Form} → IsArithmeticIf ts form → Sole IsArithmeticIf ts form
one_arithmetic laws {ts} g = subst (λ x. Sole IsArithmeticIf ts x) (sym g.made) (sole_arithmetic (one_condition laws g.condition) (one_whole IsLabel true one_label g.labels))

one_print : Readings → {ts : Tokens} {form : Form} → IsPrint ts form → Sole IsPrint ts form
one_print laws {ts} (io.alone n is) = subst (λ x. Sole IsPrint ts x) (sym is) (sole_alone n refl)
one_print laws {ts} (io.listed behind rest items n m w is) = subst (λ x. Sole IsPrint ts x) (sym is) (sole_listed n m (one_whole IsItem false (one_item laws) w))

one_read : Readings → {ts : Tokens} {form : Form} → IsRead ts form → Sole IsRead ts form
one_read laws {ts} r = subst (λ x. Sole IsRead ts x) (sym r.made) (sole_read r.star r.comma (one_whole _ true (one_variable laws) r.listed))

one_assignment : Readings → {ts : Tokens} {form : Form} → IsAssignment ts form → Sole IsAssignment ts form
one_assignment laws {ts} a = subst (λ x. Sole IsAssignment ts x) (sym a.made) (sole_assignment (one_variable laws ts a.rest a.target a.assigned (equals a.more a.equals)) a.equals (one_whole_expression a.reads))

one_test : Readings → {ts : Tokens} {x : Expr} → IsTest ts x → Sole IsTest ts x
one_test laws t = sole_test (one_condition laws t.condition) t.then_is

some_same : {x y : Form} → Some x ≡ Some y → x ≡ y
some_same e = cc

one_call : {ts : Tokens} {a b : Form} → IsCall ts a → IsCall ts b → a ≡ b
one_call p q = some_same (sym p.made ∙ (ap call_of ((one_whole_expression q.reads).only p.x p.reads) ∙ q.made))

of_sole : {I A : Type 0} {Is : I → A → Type 0} {at : I} {a b : A} → Sole Is at b → Is at a → a ≡ b
of_sole {a = a} sole is = sole.only a is

one_made : {A : Type 0} {Is : Tokens → A → Type 0} {ts : Tokens} {a b : Form} (make : A → Form) → ((x : A) → Is ts x → Sole Is ts x) → Made Is make ts a → Made Is make ts b → a ≡ b
one_made make one p q = p.made ∙ (ap make ((one q.part q.is).only p.part p.is) ∙ sym q.made)

-- the form behind a word
one_word : Readings → (w : Keyword) (ts : Tokens) {a b : Form} → WordForm w ts a → WordForm w ts b → a ≡ b
one_word laws word.ImplicitNone ts p q = p.made ∙ sym q.made
one_word laws word.Implicit ts p q = one_made f.Implicit (λ x i. one_implicit i) p q
one_word laws word.Integer ts p q = one_made _ (λ x i. one_declarators laws i) p q
one_word laws word.Logical ts p q = one_made _ (λ x i. one_declarators laws i) p q
one_word laws word.Dimension ts p q = one_made f.Dimension (λ x i. one_arrays laws i) p q
one_word laws word.Common ts p q = one_made f.Common (λ x i. one_common laws i) p q
one_word laws word.Parameter ts p q = one_made f.Parameter (λ x i. one_parameter laws i) p q
one_word laws word.External ts p q = one_made f.External (λ x i. one_names i) p q
one_word laws word.Intrinsic ts p q = one_made f.Intrinsic (λ x i. one_names i) p q
one_word laws word.Save ts p q = one_made save_of (λ x i. one_save i) p q
one_word laws word.Data ts p q = one_made f.DataRuns (λ x i. one_data laws i) p q
one_word laws word.ElseIf ts p q = one_made f.ElseIf (λ x i. one_test laws i) p q
one_word laws word.Else ts p q = p.made ∙ sym q.made
one_word laws word.EndIf ts p q = p.made ∙ sym q.made
one_word laws word.End ts p q = p.made ∙ sym q.made
one_word laws word.GoTo ts p q = of_sole (one_go_to laws q) p
one_word laws word.Continue ts p q = p.made ∙ sym q.made
one_word laws word.Return ts p q = p.made ∙ sym q.made
one_word laws word.Stop ts p q = p.made ∙ sym q.made
one_word laws word.Call ts p q = one_call p q
one_word laws word.Print ts p q = of_sole (one_print laws q) p
one_word laws word.Read ts p q = of_sole (one_read laws q) p

one_in : {A : Type 0} {Is : Tokens → A → Type 0} {text : Text} {a b : A} → ((ts : Tokens) → Is ts a → Is ts b → a ≡ b) → InTokens Is text a → InTokens Is text b → a ≡ b
one_in {Is = Is} {text = text} {a = a} one p q = one q.tokens (subst (λ ts. Is ts a) (lexes_same text p.tokens q.tokens p.cut.lexes q.cut.lexes) p.is) q.is

-- ---- heads

one_names_in : {text : Text} {names : List Text} → AreNamesIn text names → Sole AreNamesIn text names
one_names_in {text} (last_name name e is all) = subst (λ n. Sole AreNamesIn text n) (sym all) (names_last (record { cut = e; is = is; ends = refl }) refl)
one_names_in {text} (next_name name rest e is more all) = subst (λ n. Sole AreNamesIn text n) (sym all) (names_more (record { cut = e; is = is; ends = refl }) (one_names_in more))

one_dummies : {list : Text} {a b : List Text} → AreDummies list a → AreDummies list b → a ≡ b
one_dummies p (no_names e all) = (sole_none e).only _ p ∙ sym all
one_dummies (no_names e all) (some_names r f b) = all ∙ sym ((sole_none e).only _ (some_names r f b))
one_dummies {a = x} (some_names rest e a) (some_names r f b) =
    let same : rest ≡ r = cc (e, f) in
    (one_names_in b).only x (subst (λ t. AreNamesIn t x) same a)

one_named_list : {text : Text} {a b : Text × List Text} → IsNamedList text a → IsNamedList text b → a ≡ b
one_named_list {a = a} {b = b} p q =
    let same = word_same a.0 p.list b.0 q.list (name_word a.0 p.named) (name_word b.0 q.named) (list_stops p.listed) (list_stops q.listed) (sym p.cut ∙ q.cut) in
    ap (λ n. pair n a.1) same.piece ∙ ap (λ l. pair b.0 l) (one_dummies (subst (λ t. AreDummies t a.1) same.rest p.listed) q.listed)

one_subroutine : {text : Text} {a b : Form} → IsSubroutine text a → IsSubroutine text b → a ≡ b
one_subroutine (bare n e is made) (bare m g also too) = made ∙ (ap (λ n. f.Head unit.Subroutine None n []) (subroutine_rest g e) ∙ sym too)
one_subroutine (bare n e is made) (listed r parts g l too) = absurd (named_no_list is (subst (λ t. IsNamedList t parts) (subroutine_rest e g) l))
one_subroutine (listed r parts e l made) (bare m g is too) = absurd (named_no_list is (subst (λ t. IsNamedList t parts) (subroutine_rest g e) l))
one_subroutine (listed r parts e l made) (listed s others g k too) =
    made ∙ (ap (λ (p : Text × List Text). f.Head unit.Subroutine None p.0 p.1) (one_named_list (subst (λ t. IsNamedList t parts) (subroutine_rest g e) l) k) ∙ sym too)

one_function : {text : Text} {a b : Form} → IsFunction text a → IsFunction text b → a ≡ b
one_function p q =
    let rests = function_rest (function_cut p.typed (function_typed refl p) p.cut q) refl in
    let parts = one_named_list (subst (λ t. IsNamedList t p.parts) rests p.listed) q.listed in
    p.made ∙ (ap (λ t. f.Head unit.Function t p.parts.0 p.parts.1) (function_typed refl p ∙ sym (function_typed refl q)) ∙ (ap (λ (x : Text × List Text). f.Head unit.Function q.typed x.0 x.1) parts ∙ sym q.made))

no_name : {name : Text} → name ≡ [] → is_name name ≡ true → ⊥
no_name e is = let wrong : false ≡ true = sym (ap is_name e) ∙ is in cc

one_block : {text : Text} {a b : Form} → IsBlock text a → IsBlock text b → a ≡ b
one_block (named n e is made) (named m g also too) = made ∙ (ap (λ n. f.Head unit.BlockData None n []) (block_rest g e) ∙ sym too)
one_block (named n e is made) (nameless g too) = absurd (no_name (block_rest g e) is)
one_block (nameless e made) (named m g is too) = absurd (no_name (block_rest e g) is)
one_block (nameless e made) (nameless g too) = made ∙ sym too

one_head : {text : Text} {a b : Form} → IsHeadForm text a → IsHeadForm text b → a ≡ b
one_head (program p) h = let q = only_program (ap first_byte p.cut) h in p.made ∙ (ap (λ n. f.Head unit.Main None n []) (program_name q.cut p.cut) ∙ sym q.made)
one_head (subroutine p) h = one_subroutine p (only_subroutine (subroutine_first p) h)
one_head (function p) h = one_function p (only_function (letters p).0 (letters p).1 (letters p).2 h)
one_head (block p) h = one_block p (only_block (block_first p) h)

-- ---- statements

one_do : Readings → {text : Text} {a b : Form} → IsDoForm text a → IsDoForm text b → a ≡ b
one_do laws d h =
    let range = sole_in (sole_tokens h.range.cut.lexes h.range.cut.shallow) (one_range laws h.range.is) in
    (sole_do h.cut h.head range).only _ d ∙ sym h.made

one_worded : Readings → {text : Text} {a b : Form} → IsWorded text a → IsWorded text b → a ≡ b
one_worded laws (t.head p) (t.head q) = one_head p q
one_worded laws (t.head p) (t.by_word w never e i) = absurd (never.not _ p)
one_worded laws (t.by_word w never e i) (t.head q) = absurd (never.not _ q)
one_worded laws {text} {a} (t.by_word v never e i) (t.by_word w also g j) = one_in (λ ts p q. one_word laws w ts p q) (word_in text w v g e i) j

one_behind : {text : Text} {a b : Form} {Is : Tokens → Form → Type 0} → ((ts : Tokens) → Is ts a → Is ts b → a ≡ b) → BehindIf Is text a → BehindIf Is text b → a ≡ b
one_behind {a = a} {Is = Is} one p q =
    let same : p.rest ≡ q.rest = cc (p.cut, q.cut) in
    one_in one (subst (λ r. InTokens Is r a) same p.is) q.is

one_kind_form : Readings → (k : StatementKind) (text : Text) {a b : Form} → KindForm k text a → KindForm k text b → a ≡ b
one_kind_form laws kind.Assignment text p q = one_in (λ ts x y. of_sole (one_assignment laws y) x) p q
one_kind_form laws kind.Do text p q = one_do laws p q
one_kind_form laws kind.BlockIf text p q = one_behind (λ ts x y. one_made f.BlockIf (λ e i. one_test laws i) x y) p q
one_kind_form laws kind.ArithmeticIf text p q = one_behind (λ ts x y. of_sole (one_arithmetic laws y) x) p q
one_kind_form laws kind.LogicalIf text p q = absurd p
one_kind_form laws kind.Worded text p q = one_worded laws p q

one_plain : Readings → {text : Text} {a b : Form} → HasPlainForm text a → HasPlainForm text b → a ≡ b
one_plain laws {text} {a} p q = one_kind_form laws q.kind text (subst (λ k. KindForm k text a) (kind_same p.is_kind q.is_kind) p.is) q.is

one_logical : Readings → {text : Text} {a b : Form} → IsLogicalIf text a → IsLogicalIf text b → a ≡ b
one_logical laws p q =
    let place = if_same p.cut q.cut in
    let tests = one_in (λ ts x y. of_sole (one_whole_expression y) x) (subst (λ c. InTokens IsExpression c p.test) place.before p.is_test) q.is_test in
    let inners = one_plain laws (subst (λ s. HasPlainForm s p.inner) place.behind p.is_inner.plain) q.is_inner.plain in
    p.made ∙ (ap (λ x. f.LogicalIf x p.inner) tests ∙ (ap (λ i. f.LogicalIf q.test i) inners ∙ sym q.made))

no_plain : {text : Text} {a : Form} → IsKind text kind.LogicalIf → HasPlainForm text a → ⊥
no_plain {text} {a} is p = subst (λ k. KindForm k text a) (kind_same p.is_kind is) p.is

one_form_at : Readings → {text : Text} {a b : Form} → HasForm text a → HasForm text b → a ≡ b
one_form_at laws (t.plain p) (t.plain q) = one_plain laws p q
one_form_at laws (t.plain p) (t.logical_if is l) = absurd (no_plain is p)
one_form_at laws (t.logical_if is l) (t.plain q) = absurd (no_plain is q)
one_form_at laws (t.logical_if is l) (t.logical_if also m) = one_logical laws l m

pub one_form : Readings → OneForm
one_form laws text a b p q = one_form_at laws p q

pub one_kind : OneKind
one_kind text a b p q = kind_same p q

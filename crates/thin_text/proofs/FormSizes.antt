-- How many bytes thin statements have at least in a text.
use Rattle.std.proofs.Common.{◌≡◌, ℕ, ◌+◌, ◌≤◌, List, [], ◌∷◌, length, drop, sum_by, Some, ap, ◌∙◌, rules, arith, length-drop}
use Rattle.std.specs.List.{AllZip}
use Rattle.std.proofs.lemmas.List.Sums.{sum_by-cons, sum_by-append}
use Rattle.f77_tree.specs.declared.expr.Expr.{Expr}
use Rattle.f77_tree.specs.declared.form.Form.{Form, out-Form, the_lemmas}
use Rattle.f77_tree.specs.declared.form.Form.TheOpen.{Form-F}
use Rattle.f77_tree.specs.declared.form.Form.TheVariants as f
use Rattle.f77_expr.specs.declared.token.Kind.TheVariants as k
use Rattle.f77_expr.specs.Kinds.{Tokens}
use Rattle.form_kinds.specs.declared.keywords.Keyword.{Keyword}
use Rattle.form_kinds.specs.declared.keywords.Keyword.TheVariants as word
use Rattle.form_kinds.specs.declared.statement_kinds.StatementKind.{StatementKind}
use Rattle.form_kinds.specs.declared.statement_kinds.StatementKind.TheVariants as kind
use Rattle.form_parts.specs.Answers.{InTokens}
use Rattle.form_execution.specs.Assignment.{IsAssignment}
use Rattle.f77_forms.specs.Forms.{HasForm, plain, logical_if, KindForm, IsWorded, head, by_word, WordForm}
use Rattle.f77_forms.specs.HeadForms as h
use Rattle.form_execution.specs.InputOutput.{IsItem, value as by_value, literal as by_literal, IsPrint, alone as printed_alone, listed as printed_list}
use Rattle.form_kinds.specs.Keywords.{keyword_of, behind}
use Rattle.form_parts.specs.Listed.{Listed, last, more}
use Rattle.form_parts.specs.Parts.{IsVariable, plain as by_name, element}
use Rattle.f77_expr.specs.Grammar.{ReadsExpression}
use Rattle.f77_tree.specs.declared.expr.Expr.TheOpen.{Expr-F}
use Rattle.f77_tree.specs.declared.expr.Expr.{out-Expr}
use Rattle.form_execution.specs.Transfer as x
use Rattle.thin_form.specs.declared.statement.Addend.{Addend}
use Rattle.thin_form.specs.declared.statement.Term.{Term}
use Rattle.thin_form.specs.declared.statement.Item.{Item}
use Rattle.thin_form.specs.declared.statement.Statement.{Statement}
use Rattle.thin_form.specs.Forms as n
use Rattle.thin_form.specs.Programs.{term_size, item_size, size_of}
use Rattle.thin_text.proofs.TokenSizes.{tokens_size, lexed_size, expr_size, size_int, size_text, size_scalar, size_apply, size_binary, reads_size, next_size, solid_next}

-- ---- forms

abbrev form_size_at : Form-F Form → ℕ
form_size_at (Form-F.Assign target value) = expr_size target + (1 + expr_size value)
form_size_at (Form-F.Print items) = 6 + sum_by (λ x. 1 + expr_size x) items
form_size_at Form-F.End = 1
form_size_at _ = 0

abbrev pub form_size : Form → ℕ
form_size form = form_size_at (out-Form form)

size_assign : (target value : Expr) → form_size (f.Assign target value) ≡ expr_size target + (1 + expr_size value)
size_assign target value = search (rules, the_lemmas)

size_print : (items : List Expr) → form_size (f.Print items) ≡ 6 + sum_by (λ x. 1 + expr_size x) items
size_print items = search (rules, the_lemmas)

size_end : form_size f.End ≡ 1
size_end = search (rules, the_lemmas)

-- ---- the text of an assignment

subscripts_size : {ts s : Tokens} {all : List Expr} → Listed ReadsExpression ts all s → sum_by expr_size all + tokens_size s ≤ tokens_size ts
subscripts_size (last {x = x} d h) = let z = ap (sum_by expr_size) h ∙ sum_by-cons expr_size x [] in let p = reads_size d in omega (arith, z, p)
subscripts_size (more {rest = rest} {after = after} {x = x} {others = others} d c l h) =
    let z = ap (sum_by expr_size) h ∙ sum_by-cons expr_size x others in let p = reads_size d in let m = next_size rest k.Comma after c in let q = subscripts_size l in omega (arith, z, p, m, q)

variable_size : {ts s : Tokens} {x : Expr} → IsVariable ts x s → expr_size x + tokens_size s ≤ tokens_size ts
variable_size (by_name {name = name} n h) = let z = ap expr_size h ∙ size_scalar name in let p = ap tokens_size n.front in omega (arith, z, p)
variable_size {s = s} (element {rest = rest} {name = name} {subscripts = subscripts} n l h) =
    let z = ap expr_size h ∙ size_apply name subscripts in
    let p = ap tokens_size n.front in
    let o = next_size rest k.Open l.inside l.opens in
    let i = subscripts_size l.listed in
    let c = next_size l.behind k.Close s l.closes in
    omega (arith, z, p, o, i, c)

assignment_size : (text : List ℕ) (form : Form) → InTokens IsAssignment text form → form_size form ≤ length text
assignment_size text form h =
    let a = h.is in
    let l = lexed_size text h.tokens h.cut.lexes in
    let t = variable_size a.assigned in
    let m = solid_next a.rest k.Equals a.more a.equals (λ w. absurd (cc)) in
    let v = reads_size a.reads.reads in
    let z = ap form_size a.made ∙ size_assign a.target a.value in
    omega (arith, l, t, m, v, z)

-- ---- the text of a PRINT

item_size_of : {ts s : Tokens} {x : Expr} → IsItem ts x s → expr_size x + tokens_size s ≤ tokens_size ts
item_size_of (by_value d) = reads_size d
item_size_of (by_literal bytes h i) = let z = ap expr_size i ∙ size_text bytes in let p = ap tokens_size h in omega (arith, z, p)

listed_size : {ts s : Tokens} {all : List Expr} → Listed IsItem ts all s → sum_by (λ x. 1 + expr_size x) all + tokens_size s ≤ 1 + tokens_size ts
listed_size (last {x = x} i h) = let z = ap (sum_by (λ x. 1 + expr_size x)) h ∙ sum_by-cons (λ x. 1 + expr_size x) x [] in let p = item_size_of i in omega (arith, z, p)
listed_size (more {rest = rest} {after = after} {x = x} {others = others} i c l h) =
    let z = ap (sum_by (λ x. 1 + expr_size x)) h ∙ sum_by-cons (λ x. 1 + expr_size x) x others in
    let p = item_size_of i in
    let m = solid_next rest k.Comma after c (λ w. absurd (cc)) in
    let q = listed_size l in
    omega (arith, z, p, m, q)

print_size : (ts : Tokens) (form : Form) → IsPrint ts form → form_size form ≤ 5 + tokens_size ts
print_size ts form (printed_alone s m) = let z = ap form_size m ∙ size_print [] in let q = solid_next ts k.Star [] s (λ w. absurd (cc)) in omega (arith, z, q)
print_size ts form (printed_list behind rest items s c l m) =
    let z = ap form_size m ∙ size_print items in
    let p = solid_next ts k.Star behind s (λ w. absurd (cc)) in
    let q = solid_next behind k.Comma rest c (λ w. absurd (cc)) in
    let i = listed_size l in
    omega (arith, z, p, q, i)

star_size : (ts : Tokens) (form : Form) → IsPrint ts form → 1 ≤ tokens_size ts
star_size ts form (printed_alone s m) = let q = solid_next ts k.Star [] s (λ w. absurd (cc)) in omega (arith, q)
star_size ts form (printed_list behind rest items s c l m) = let p = solid_next ts k.Star behind s (λ w. absurd (cc)) in omega (arith, p)

print_text : (text : List ℕ) (form : Form) → InTokens IsPrint (drop 5 text) form → form_size form ≤ length text
print_text text form h =
    let l = lexed_size (drop 5 text) h.tokens h.cut.lexes in
    let p = print_size h.tokens form h.is in
    let d = length-drop 5 text in
    let one = star_size h.tokens form h.is in
    omega (arith, l, p, d, one)

-- ---- the others

no_word_none : (w : Keyword) → keyword_of [] ≡ Some w → ⊥
no_word_none w h = cc

filled : (text : List ℕ) (w : Keyword) → keyword_of text ≡ Some w → 1 ≤ length text
filled [] w h = absurd (no_word_none w h)
filled (b ∷ text) w h = omega arith

-- a form that isn't thin counts none
none_of : (form whole : Form) → form ≡ whole → form_size whole ≡ 0 → (n : ℕ) → form_size form ≤ n
none_of form whole made none n = let z = ap form_size made ∙ none in omega (arith, z)

head_size : (text : List ℕ) (form : Form) → h.IsHeadForm text form → (n : ℕ) → form_size form ≤ n
head_size text form (h.program p) n = none_of form _ p.made (search (rules, the_lemmas)) n
head_size text form (h.subroutine (h.bare name e w m)) n = none_of form _ m (search (rules, the_lemmas)) n
head_size text form (h.subroutine (h.listed rest parts e l m)) n = none_of form _ m (search (rules, the_lemmas)) n
head_size text form (h.function g) n = none_of form _ g.made (search (rules, the_lemmas)) n
head_size text form (h.block (h.named name e w m)) n = none_of form _ m (search (rules, the_lemmas)) n
head_size text form (h.block (h.nameless e m)) n = none_of form _ m (search (rules, the_lemmas)) n

transfer_size : (ts : Tokens) (form : Form) → x.IsGoTo ts form → (n : ℕ) → form_size form ≤ n
transfer_size ts form (x.plain p) n = none_of form _ p.made (search (rules, the_lemmas)) n
transfer_size ts form (x.computed p) n = none_of form _ p.made (search (rules, the_lemmas)) n

some_form : (form whole : Form) → Some whole ≡ Some form → form ≡ whole
some_form form whole e = cc

call_form : (y : Expr-F Expr) (form : Form) → x.call_at y ≡ Some form → (n : ℕ) → form_size form ≤ n
call_form (Expr-F.Scalar name) form m n = none_of form _ (some_form form (f.Call name []) m) (search (rules, the_lemmas)) n
call_form (Expr-F.Apply name actuals) form m n = none_of form _ (some_form form (f.Call name actuals) m) (search (rules, the_lemmas)) n
call_form (Expr-F.Int v) form m n = absurd (cc)
call_form (Expr-F.Truth v) form m n = absurd (cc)
call_form (Expr-F.Text v) form m n = absurd (cc)
call_form (Expr-F.Paren v) form m n = absurd (cc)
call_form (Expr-F.Neg v) form m n = absurd (cc)
call_form (Expr-F.Plus v) form m n = absurd (cc)
call_form (Expr-F.Not v) form m n = absurd (cc)
call_form (Expr-F.Binary o a b) form m n = absurd (cc)

word_size : (w : Keyword) (text : List ℕ) (form : Form) → keyword_of text ≡ Some w → InTokens (WordForm w) (behind w text) form → form_size form ≤ length text
word_size word.ImplicitNone text form k h = none_of form _ h.is.made (search (rules, the_lemmas)) (length text)
word_size word.Implicit text form k h = none_of form _ h.is.made (search (rules, the_lemmas)) (length text)
word_size word.Integer text form k h = none_of form _ h.is.made (search (rules, the_lemmas)) (length text)
word_size word.Logical text form k h = none_of form _ h.is.made (search (rules, the_lemmas)) (length text)
word_size word.Dimension text form k h = none_of form _ h.is.made (search (rules, the_lemmas)) (length text)
word_size word.Common text form k h = none_of form _ h.is.made (search (rules, the_lemmas)) (length text)
word_size word.Parameter text form k h = none_of form _ h.is.made (search (rules, the_lemmas)) (length text)
word_size word.External text form k h = none_of form _ h.is.made (search (rules, the_lemmas)) (length text)
word_size word.Intrinsic text form k h = none_of form _ h.is.made (search (rules, the_lemmas)) (length text)
word_size word.Save text form k h = none_of form _ h.is.made (search (rules, the_lemmas)) (length text)
word_size word.Data text form k h = none_of form _ h.is.made (search (rules, the_lemmas)) (length text)
word_size word.ElseIf text form k h = none_of form _ h.is.made (search (rules, the_lemmas)) (length text)
word_size word.Else text form k h = none_of form _ h.is.made (search (rules, the_lemmas)) (length text)
word_size word.EndIf text form k h = none_of form _ h.is.made (search (rules, the_lemmas)) (length text)
word_size word.End text form k h = let z = ap form_size h.is.made ∙ size_end in let l = filled text word.End k in omega (arith, z, l)
word_size word.GoTo text form k h = transfer_size h.tokens form h.is (length text)
word_size word.Continue text form k h = none_of form _ h.is.made (search (rules, the_lemmas)) (length text)
word_size word.Return text form k h = none_of form _ h.is.made (search (rules, the_lemmas)) (length text)
word_size word.Stop text form k h = none_of form _ h.is.made (search (rules, the_lemmas)) (length text)
word_size word.Call text form k h = call_form (out-Expr h.is.x) form h.is.made (length text)
word_size word.Print text form k h = print_text text form h
word_size word.Read text form k h = none_of form _ h.is.made (search (rules, the_lemmas)) (length text)

worded_size : (text : List ℕ) (form : Form) → IsWorded text form → form_size form ≤ length text
worded_size text form (head h) = head_size text form h (length text)
worded_size text form (by_word w none known h) = word_size w text form known h

kind_size : (k : StatementKind) (text : List ℕ) (form : Form) → KindForm k text form → form_size form ≤ length text
kind_size kind.Assignment text form h = assignment_size text form h
kind_size kind.Do text form h = none_of form _ h.made (search (rules, the_lemmas)) (length text)
kind_size kind.BlockIf text form h = none_of form _ h.is.is.made (search (rules, the_lemmas)) (length text)
kind_size kind.ArithmeticIf text form h = none_of form _ h.is.is.made (search (rules, the_lemmas)) (length text)
kind_size kind.LogicalIf text form h = absurd h
kind_size kind.Worded text form h = worded_size text form h

pub form_text : (text : List ℕ) (form : Form) → HasForm text form → form_size form ≤ length text
form_text text form (plain p) = kind_size p.kind text form p.is
form_text text form (logical_if k l) = none_of form _ l.made (search (rules, the_lemmas)) (length text)

-- ---- thin statements

term_of : {tree : Expr} {term : Term} → n.IsTermOf tree term → term_size term ≤ expr_size tree
term_of (n.variable name h i m) = let z = ap expr_size h ∙ size_scalar name in let w = ap term_size m in omega (arith, z, w)
term_of (n.integer v h i m) = let z = ap expr_size h ∙ size_int v in let w = ap term_size m in omega (arith, z, w)

sum_of : {tree : Expr} {first : Term} {all : List Addend} → n.IsSumOf tree first all → term_size first + sum_by (λ a. 1 + term_size a.term) all ≤ expr_size tree
sum_of (n.alone t h) = let z = ap (sum_by (λ a. 1 + term_size a.term)) h in let p = term_of t in omega (arith, z, p)
sum_of (n.joined {a = a} {b = b} {before = before} l h s t m) =
    let z = ap expr_size h ∙ size_binary (n.op_of l.sign) a b in
    let w = ap (sum_by (λ a. 1 + term_size a.term)) m ∙ sum_by-append (λ a. 1 + term_size a.term) before (l ∷ []) in
    let o = sum_by-cons (λ a. 1 + term_size a.term) l [] in
    let p = sum_of s in
    let q = term_of t in
    omega (arith, z, w, o, p, q)

item_of : {tree : Expr} {item : Item} → n.IsItemOf tree item → item_size item ≤ expr_size tree
item_of (n.value term t m) = let w = ap item_size m in let p = term_of t in omega (arith, w, p)
item_of (n.literal bytes h m) = let z = ap expr_size h ∙ size_text bytes in let w = ap item_size m in omega (arith, z, w)

items_of : (trees : List Expr) (items : List Item) → AllZip n.IsItemOf trees items → sum_by (λ i. 1 + item_size i) items ≤ sum_by (λ x. 1 + expr_size x) trees
items_of [] [] h = omega arith
items_of [] (i ∷ items) h = absurd h
items_of (t ∷ trees) [] h = absurd h
items_of (t ∷ trees) (i ∷ items) h =
    let z = sum_by-cons (λ i. 1 + item_size i) i items in
    let w = sum_by-cons (λ x. 1 + expr_size x) t trees in
    let p = item_of h.0 in
    let q = items_of trees items h.1 in
    omega (arith, z, w, p, q)

pub statement_of : (form : Form) (s : Statement) → n.IsStatementOf form s → size_of s ≤ form_size form
statement_of form s (n.assign target value h a) =
    let z = ap form_size h ∙ size_assign target value in
    let w = ap size_of a.made in
    let t = ap expr_size a.variable ∙ size_scalar a.name in
    let p = sum_of a.sum in
    omega (arith, z, w, t, p)
statement_of form s (n.print trees items h i m) = let z = ap form_size h ∙ size_print trees in let w = ap size_of m in let p = items_of trees items i in omega (arith, z, w, p)
statement_of form s (n.end h m) = let z = ap form_size h ∙ size_end in let w = ap size_of m in omega (arith, z, w)

-- the bytes of a thin statement are those of its text at most
pub statement_text : (text : List ℕ) (form : Form) (s : Statement) → HasForm text form → n.IsStatementOf form s → size_of s ≤ length text
statement_text text form s h t = let p = form_text text form h in let q = statement_of form s t in omega (arith, p, q)

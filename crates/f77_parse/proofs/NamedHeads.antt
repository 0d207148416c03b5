-- The two grammars of heads tell the same names.
use Rattle.std.proofs.Common.{◌≡◌, ℕ, suc, Bool, true, false, ◌&&◌, not, ◌==◌, List, [], ◌∷◌, ◌++◌, length, get_or, ap, sym, ◌∙◌, subst, refl, arith, rules, length-append}
use Rattle.std.specs.Prelude.{codes, Some, None}
use Rattle.std.specs.List.{All, AllZip, list_all}
use Rattle.std.specs.declared.option.Option.{Option}
use Rattle.std.proofs.lemmas.Bool.Decides.{nat_tests}
use Rattle.f77_tree.specs.Names.{is_name, is_word}
use Rattle.f77_tree.specs.declared.form.Form.{Form, out-Form, the_lemmas}
use Rattle.f77_tree.specs.declared.form.Form.TheOpen.{Form-F}
use Rattle.f77_tree.specs.declared.form.Form.TheVariants as f
use Rattle.f77_tree.specs.declared.form.TypeWord.{TypeWord}
use Rattle.f77_tree.specs.declared.form.TypeWord.TheVariants as ty
use Rattle.f77_tree.specs.declared.unit.Stmt.{Stmt}
use Rattle.f77_tree.specs.declared.unit.Unit.{Unit as SourceUnit}
use Rattle.f77_tree.specs.declared.unit.UnitKind.{UnitKind}
use Rattle.f77_tree.specs.declared.unit.UnitKind.TheVariants as unit
use Rattle.f77_tree.specs.declared.expr.Expr.{Expr, out-Expr}
use Rattle.f77_tree.specs.declared.expr.Expr.TheOpen.{Expr-F}
use Rattle.fixed_form.specs.declared.reader.Line.{Line}
use Rattle.fixed_form.specs.declared.reader.UnitText.{UnitText}
use Rattle.fixed_form.specs.Heads.{Lacks}
use Rattle.fixed_form.specs.Reading.{Reads, first_text}
use Rattle.fixed_form.specs.UnitNames as u
use Rattle.fixed_form.proofs.WordRuns.{and_left, and_right, and_both, name_word}
use Rattle.f77_expr.specs.Kinds.{Tokens}
use Rattle.form_kinds.specs.declared.keywords.Keyword.{Keyword}
use Rattle.form_kinds.specs.declared.keywords.Keyword.TheVariants as word
use Rattle.form_kinds.specs.declared.statement_kinds.StatementKind.{StatementKind}
use Rattle.form_kinds.specs.declared.statement_kinds.StatementKind.TheVariants as kind
use Rattle.form_kinds.specs.Keywords.{behind}
use Rattle.form_kinds.specs.Scans.{Outside, NoneOutside}
use Rattle.form_kinds.specs.StatementKinds.{IsKind, worded}
use Rattle.form_parts.specs.Answers.{InTokens}
use Rattle.form_execution.specs.InputOutput as io
use Rattle.form_execution.specs.Transfer as x
use Rattle.f77_forms.specs.Forms.{HasForm, plain, logical_if, KindForm, IsWorded, head, by_word, WordForm}
use Rattle.f77_forms.specs.HeadForms as h
use Rattle.f77_forms.specs.Laws.{OneForm}
use Rattle.f77_parse.specs.HeadNames.{IsNamedByHead, headed, headless, HasItsName, GivesItsName}
use Rattle.f77_parse.specs.Parsed.{IsUnit, IsStatement}
use Rattle.f77_parse.proofs.Headings.{first_line}

-- ---- a head by the name of its unit

record SomeNames (text : List ℕ) : Type 0 where
  names : List (List ℕ)
  are : h.AreNamesIn text names

names_in : {text : List ℕ} → u.AreNames text → SomeNames text
names_in (u.last_name name e n) = record { names = name ∷ []; are = h.last_name name e n refl }
names_in (u.next_name name rest e n more) = let others = names_in more in record { names = name ∷ others.names; are = h.next_name name rest e n others.are refl }

record SomeDummies (text : List ℕ) : Type 0 where
  names : List (List ℕ)
  are : h.AreDummies text names

dummies_in : {text : List ℕ} → u.IsList text → SomeDummies text
dummies_in (u.no_names e) = record { names = []; are = h.no_names e refl }
dummies_in (u.some_names rest e more) = let all = names_in more in record { names = all.names; are = h.some_names rest e all.are }

record SomeType (text : List ℕ) : Type 0 where
  typed : Option TypeWord
  spelled : text ≡ h.type_spelling typed

type_in : {text : List ℕ} → u.IsTypeWord text → SomeType text
type_in (u.untyped e) = record { typed = None; spelled = e }
type_in (u.integer e) = record { typed = Some ty.Integer; spelled = e }
type_in (u.logical e) = record { typed = Some ty.Logical; spelled = e }
type_in (u.real e) = record { typed = Some ty.Real; spelled = e }
type_in (u.double_precision e) = record { typed = Some ty.DoublePrecision; spelled = e }
type_in (u.complex e) = record { typed = Some ty.Complex; spelled = e }

record SomeHead (text name : List ℕ) : Type 0 where
  kind : UnitKind
  word : Option TypeWord
  dummies : List (List ℕ)
  is : h.IsHeadForm text (f.Head kind word name dummies)

head_in : {text name : List ℕ} → u.IsHead text name → SomeHead text name
head_in {name = name} (u.program e n) = record { kind = unit.Main; word = None; dummies = []; is = h.program (record { name = name; cut = e; named = n; made = refl }) }
head_in {name = name} (u.subroutine e n) = record { kind = unit.Subroutine; word = None; dummies = []; is = h.subroutine (h.bare name e n refl) }
head_in {name = name} (u.subroutine_list list e n l) =
    let all = dummies_in l in
    record { kind = unit.Subroutine; word = None; dummies = all.names; is = h.subroutine (h.listed (name ++ list) (name, all.names) e (record { list = list; cut = refl; named = n; listed = all.are }) refl) }
head_in {name = name} (u.function word list e t n l) =
    let all = dummies_in l in
    let type = type_in t in
    record {
      kind = unit.Function;
      word = type.typed;
      dummies = all.names;
      is = h.function (record {
        typed = type.typed;
        rest = name ++ list;
        parts = (name, all.names);
        cut = e ∙ ap (λ w. w ++ (codes "FUNCTION" ++ (name ++ list))) type.spelled;
        listed = record { list = list; cut = refl; named = n; listed = all.are };
        made = refl;
      });
    }
head_in {name = name} (u.block e n) = record { kind = unit.BlockData; word = None; dummies = []; is = h.block (h.named name e n refl) }
head_in {name = name} (u.bare_block e n) = record { kind = unit.BlockData; word = None; dummies = []; is = h.block (h.nameless e (ap (λ n. f.Head unit.BlockData None n []) n)) }

-- ---- the name of a unit by its head

names_of : {text : List ℕ} {names : List (List ℕ)} → h.AreNamesIn text names → u.AreNames text
names_of (h.last_name name e n m) = u.last_name name e n
names_of (h.next_name name rest e n more m) = u.next_name name rest e n (names_of more)

list_of : {text : List ℕ} {names : List (List ℕ)} → h.AreDummies text names → u.IsList text
list_of (h.no_names e m) = u.no_names e
list_of (h.some_names rest e all) = u.some_names rest e (names_of all)

type_of : (typed : Option TypeWord) → u.IsTypeWord (h.type_spelling typed)
type_of None = u.untyped refl
type_of (Some ty.Integer) = u.integer refl
type_of (Some ty.Logical) = u.logical refl
type_of (Some ty.Real) = u.real refl
type_of (Some ty.DoublePrecision) = u.double_precision refl
type_of (Some ty.Complex) = u.complex refl

names_same : (k g : UnitKind) (word more : Option TypeWord) (name other : List ℕ) (all names : List (List ℕ)) → f.Head k word name all ≡ f.Head g more other names → other ≡ name
names_same k g word more name other all names e = search (rules, the_lemmas)

same_head : (text : List ℕ) (k g : UnitKind) (word more : Option TypeWord) (name other : List ℕ) (all names : List (List ℕ)) → f.Head k word name all ≡ f.Head g more other names → u.IsHead text other → u.IsHead text name
same_head text k g word more name other all names e is = subst (u.IsHead text) (names_same k g word more name other all names e) is

subroutine_head : (text name : List ℕ) (k : UnitKind) (word : Option TypeWord) (all : List (List ℕ)) → h.IsSubroutine text (f.Head k word name all) → u.IsHead text name
subroutine_head text name k word all (h.bare other e n made) = same_head text k unit.Subroutine word None name other all [] made (u.subroutine e n)
subroutine_head text name k word all (h.listed rest parts e l made) =
    same_head text k unit.Subroutine word None name parts.0 all parts.1 made (u.subroutine_list l.list (e ∙ ap (λ r. codes "SUBROUTINE" ++ r) l.cut) l.named (list_of l.listed))

block_head : (text name : List ℕ) (k : UnitKind) (word : Option TypeWord) (all : List (List ℕ)) → h.IsBlock text (f.Head k word name all) → u.IsHead text name
block_head text name k word all (h.named other e n made) = same_head text k unit.BlockData word None name other all [] made (u.block e n)
block_head text name k word all (h.nameless e made) = same_head text k unit.BlockData word None name (codes "BLOCKDATA") all [] made (u.bare_block e refl)

head_of : (text name : List ℕ) (k : UnitKind) (word : Option TypeWord) (all : List (List ℕ)) → h.IsHeadForm text (f.Head k word name all) → u.IsHead text name
head_of text name k word all (h.program p) = same_head text k unit.Main word None name p.name all [] p.made (u.program p.cut p.named)
head_of text name k word all (h.subroutine s) = subroutine_head text name k word all s
head_of text name k word all (h.function g) =
    let l = g.listed in
    same_head text k unit.Function word g.typed name g.parts.0 all g.parts.1 g.made (u.function (h.type_spelling g.typed) l.list (g.cut ∙ ap (λ r. h.type_spelling g.typed ++ (codes "FUNCTION" ++ r)) l.cut) (type_of g.typed) l.named (list_of l.listed))
head_of text name k word all (h.block b) = block_head text name k word all b

-- ---- no head has =, and none begins with IF(

abbrev other : ℕ → Bool
other b = not (b == 61)

other_word : (b : ℕ) → is_word b ≡ true → other b ≡ true
other_word b h = grind (arith, nat_tests)

free_word : (text : List ℕ) → list_all is_word text ≡ true → list_all other text ≡ true
free_word [] h = refl
free_word (b ∷ text) h = and_both (other b) (list_all other text) (other_word b (and_left (is_word b) (list_all is_word text) h)) (free_word text (and_right (is_word b) (list_all is_word text) h))

free_name : (name : List ℕ) → is_name name ≡ true → list_all other name ≡ true
free_name name n = free_word name (name_word name n)

free_both : (xs ys : List ℕ) → list_all other xs ≡ true → list_all other ys ≡ true → list_all other (xs ++ ys) ≡ true
free_both [] ys h g = g
free_both (b ∷ xs) ys h g = and_both (other b) (list_all other (xs ++ ys)) (and_left (other b) (list_all other xs) h) (free_both xs ys (and_right (other b) (list_all other xs) h) g)

free_in : (text parts : List ℕ) → text ≡ parts → list_all other parts ≡ true → list_all other text ≡ true
free_in text parts e h = ap (list_all other) e ∙ h

free_names : {text : List ℕ} → u.AreNames text → list_all other text ≡ true
free_names {text} (u.last_name name e n) = free_in text (name ++ 41 ∷ []) e (free_both name (41 ∷ []) (free_name name n) refl)
free_names {text} (u.next_name name rest e n more) = free_in text (name ++ 44 ∷ rest) e (free_both name (44 ∷ rest) (free_name name n) (free_names more))

free_list : {text : List ℕ} → u.IsList text → list_all other text ≡ true
free_list {text} (u.no_names e) = free_in text (codes "()") e refl
free_list {text} (u.some_names rest e more) = free_in text (40 ∷ rest) e (free_names more)

free_type : {text : List ℕ} → u.IsTypeWord text → list_all other text ≡ true
free_type {text} (u.untyped e) = free_in text [] e refl
free_type {text} (u.integer e) = free_in text (codes "INTEGER") e refl
free_type {text} (u.logical e) = free_in text (codes "LOGICAL") e refl
free_type {text} (u.real e) = free_in text (codes "REAL") e refl
free_type {text} (u.double_precision e) = free_in text (codes "DOUBLEPRECISION") e refl
free_type {text} (u.complex e) = free_in text (codes "COMPLEX") e refl

free_head : {text name : List ℕ} → u.IsHead text name → list_all other text ≡ true
free_head {text} {name} (u.program e n) = free_in text (codes "PROGRAM" ++ name) e (free_both (codes "PROGRAM") name refl (free_name name n))
free_head {text} {name} (u.subroutine e n) = free_in text (codes "SUBROUTINE" ++ name) e (free_both (codes "SUBROUTINE") name refl (free_name name n))
free_head {text} {name} (u.subroutine_list list e n l) =
    free_in text (codes "SUBROUTINE" ++ (name ++ list)) e (free_both (codes "SUBROUTINE") (name ++ list) refl (free_both name list (free_name name n) (free_list l)))
free_head {text} {name} (u.function word list e t n l) =
    free_in text (word ++ (codes "FUNCTION" ++ (name ++ list))) e
    (free_both word (codes "FUNCTION" ++ (name ++ list)) (free_type t) (free_both (codes "FUNCTION") (name ++ list) refl (free_both name list (free_name name n) (free_list l))))
free_head {text} {name} (u.block e n) = free_in text (codes "BLOCKDATA" ++ name) e (free_both (codes "BLOCKDATA") name refl (free_name name n))
free_head {text} {name} (u.bare_block e n) = free_in text (codes "BLOCKDATA") e refl

not_free : (before more : List ℕ) → list_all other (before ++ 61 ∷ more) ≡ true → ⊥
not_free [] more h = let wrong : false ≡ true = and_left false (list_all other more) h in cc
not_free (b ∷ before) more h = not_free before more (and_right (other b) (list_all other (before ++ 61 ∷ more)) h)

none_equated : {text name : List ℕ} → u.IsHead text name → NoneOutside 61 text
none_equated is = record { not = λ before more e outside. not_free before more (sym (ap (list_all other) e) ∙ free_head is) }

no_if_function : {word : List ℕ} → u.IsTypeWord word → (text rest more : List ℕ) → text ≡ word ++ (codes "FUNCTION" ++ more) → text ≡ codes "IF(" ++ rest → ⊥
no_if_function (u.untyped t) text rest more e g = let h = ap (λ xs. get_or xs 0 0) (sym g ∙ (e ∙ ap (λ w. w ++ (codes "FUNCTION" ++ more)) t)) in absurd (omega (arith, h))
no_if_function (u.integer t) text rest more e g = let h = ap (λ xs. get_or xs 1 0) (sym g ∙ (e ∙ ap (λ w. w ++ (codes "FUNCTION" ++ more)) t)) in absurd (omega (arith, h))
no_if_function (u.logical t) text rest more e g = let h = ap (λ xs. get_or xs 0 0) (sym g ∙ (e ∙ ap (λ w. w ++ (codes "FUNCTION" ++ more)) t)) in absurd (omega (arith, h))
no_if_function (u.real t) text rest more e g = let h = ap (λ xs. get_or xs 0 0) (sym g ∙ (e ∙ ap (λ w. w ++ (codes "FUNCTION" ++ more)) t)) in absurd (omega (arith, h))
no_if_function (u.double_precision t) text rest more e g = let h = ap (λ xs. get_or xs 0 0) (sym g ∙ (e ∙ ap (λ w. w ++ (codes "FUNCTION" ++ more)) t)) in absurd (omega (arith, h))
no_if_function (u.complex t) text rest more e g = let h = ap (λ xs. get_or xs 0 0) (sym g ∙ (e ∙ ap (λ w. w ++ (codes "FUNCTION" ++ more)) t)) in absurd (omega (arith, h))

no_if : {text name : List ℕ} → u.IsHead text name → (rest : List ℕ) → text ≡ codes "IF(" ++ rest → ⊥
no_if (u.program e n) rest g = let h = ap (λ xs. get_or xs 0 0) (sym g ∙ e) in absurd (omega (arith, h))
no_if (u.subroutine e n) rest g = let h = ap (λ xs. get_or xs 0 0) (sym g ∙ e) in absurd (omega (arith, h))
no_if (u.subroutine_list list e n l) rest g = let h = ap (λ xs. get_or xs 0 0) (sym g ∙ e) in absurd (omega (arith, h))
no_if {text} {name} (u.function word list e t n l) rest g = no_if_function t text rest (name ++ list) e g
no_if (u.block e n) rest g = let h = ap (λ xs. get_or xs 0 0) (sym g ∙ e) in absurd (omega (arith, h))
no_if (u.bare_block e n) rest g = let h = ap (λ xs. get_or xs 0 0) (sym g ∙ e) in absurd (omega (arith, h))

head_kind : {text name : List ℕ} → u.IsHead text name → IsKind text kind.Worded
head_kind is = worded (record { not = no_if is }) (none_equated is) refl

-- ---- the form of a head is one

abbrev is_head_at : Form-F Form → Bool
is_head_at (Form-F.Head kind word name dummies) = true
is_head_at _ = false

abbrev is_head : Form → Bool
is_head form = is_head_at (out-Form form)

heads : (kind : UnitKind) (word : Option TypeWord) (name : List ℕ) (dummies : List (List ℕ)) → is_head (f.Head kind word name dummies) ≡ true
heads kind word name dummies = search (rules, the_lemmas)

none_of : (form whole : Form) → form ≡ whole → is_head whole ≡ false → is_head form ≡ false
none_of form whole made none = ap is_head made ∙ none

transfer_none : (ts : Tokens) (form : Form) → x.IsGoTo ts form → is_head form ≡ false
transfer_none ts form (x.plain p) = none_of form _ p.made (search (rules, the_lemmas))
transfer_none ts form (x.computed p) = none_of form _ p.made (search (rules, the_lemmas))

some_form : (form whole : Form) → Some whole ≡ Some form → form ≡ whole
some_form form whole e = cc

call_none : (y : Expr-F Expr) (form : Form) → x.call_at y ≡ Some form → is_head form ≡ false
call_none (Expr-F.Scalar name) form m = none_of form _ (some_form form (f.Call name []) m) (search (rules, the_lemmas))
call_none (Expr-F.Apply name actuals) form m = none_of form _ (some_form form (f.Call name actuals) m) (search (rules, the_lemmas))
call_none (Expr-F.Int v) form m = absurd (cc)
call_none (Expr-F.Truth v) form m = absurd (cc)
call_none (Expr-F.Text v) form m = absurd (cc)
call_none (Expr-F.Paren v) form m = absurd (cc)
call_none (Expr-F.Neg v) form m = absurd (cc)
call_none (Expr-F.Plus v) form m = absurd (cc)
call_none (Expr-F.Not v) form m = absurd (cc)
call_none (Expr-F.Binary o a b) form m = absurd (cc)

print_none : (ts : Tokens) (form : Form) → io.IsPrint ts form → is_head form ≡ false
print_none ts form (io.alone s m) = none_of form _ m (search (rules, the_lemmas))
print_none ts form (io.listed behind rest items s c l m) = none_of form _ m (search (rules, the_lemmas))

word_none : (w : Keyword) (text : List ℕ) (form : Form) → InTokens (WordForm w) (behind w text) form → is_head form ≡ false
word_none word.ImplicitNone text form h = none_of form _ h.is.made (search (rules, the_lemmas))
word_none word.Implicit text form h = none_of form _ h.is.made (search (rules, the_lemmas))
word_none word.Integer text form h = none_of form _ h.is.made (search (rules, the_lemmas))
word_none word.Logical text form h = none_of form _ h.is.made (search (rules, the_lemmas))
word_none word.Dimension text form h = none_of form _ h.is.made (search (rules, the_lemmas))
word_none word.Common text form h = none_of form _ h.is.made (search (rules, the_lemmas))
word_none word.Parameter text form h = none_of form _ h.is.made (search (rules, the_lemmas))
word_none word.External text form h = none_of form _ h.is.made (search (rules, the_lemmas))
word_none word.Intrinsic text form h = none_of form _ h.is.made (search (rules, the_lemmas))
word_none word.Save text form h = none_of form _ h.is.made (search (rules, the_lemmas))
word_none word.Data text form h = none_of form _ h.is.made (search (rules, the_lemmas))
word_none word.ElseIf text form h = none_of form _ h.is.made (search (rules, the_lemmas))
word_none word.Else text form h = none_of form _ h.is.made (search (rules, the_lemmas))
word_none word.EndIf text form h = none_of form _ h.is.made (search (rules, the_lemmas))
word_none word.End text form h = none_of form _ h.is.made (search (rules, the_lemmas))
word_none word.GoTo text form h = transfer_none h.tokens form h.is
word_none word.Continue text form h = none_of form _ h.is.made (search (rules, the_lemmas))
word_none word.Return text form h = none_of form _ h.is.made (search (rules, the_lemmas))
word_none word.Stop text form h = none_of form _ h.is.made (search (rules, the_lemmas))
word_none word.Call text form h = call_none (out-Expr h.is.x) form h.is.made
word_none word.Print text form h = print_none h.tokens form h.is
word_none word.Read text form h = none_of form _ h.is.made (search (rules, the_lemmas))

no_head : {A : Type 0} (form : Form) → is_head form ≡ true → is_head form ≡ false → A
no_head {A} form is none = let wrong : true ≡ false = sym is ∙ none in absurd (cc)

worded_head : (text : List ℕ) (form : Form) → is_head form ≡ true → IsWorded text form → h.IsHeadForm text form
worded_head text form is (head p) = p
worded_head text form is (by_word w none known i) = no_head form is (word_none w text form i)

kind_head : (k : StatementKind) (text : List ℕ) (form : Form) → is_head form ≡ true → KindForm k text form → h.IsHeadForm text form
kind_head kind.Assignment text form is h = no_head form is (none_of form _ h.is.made (search (rules, the_lemmas)))
kind_head kind.Do text form is h = no_head form is (none_of form _ h.made (search (rules, the_lemmas)))
kind_head kind.BlockIf text form is h = no_head form is (none_of form _ h.is.is.made (search (rules, the_lemmas)))
kind_head kind.ArithmeticIf text form is h = no_head form is (none_of form _ h.is.is.made (search (rules, the_lemmas)))
kind_head kind.LogicalIf text form is h = absurd h
kind_head kind.Worded text form is h = worded_head text form is h

form_head : (text : List ℕ) (form : Form) → is_head form ≡ true → HasForm text form → h.IsHeadForm text form
form_head text form is (plain p) = kind_head p.kind text form is p.is
form_head text form is (logical_if k l) = no_head form is (none_of form _ l.made (search (rules, the_lemmas)))

-- ---- units

head_has : {text name : List ℕ} → (is : u.IsHead text name) → HasForm text (f.Head (head_in is).kind (head_in is).word name (head_in is).dummies)
head_has is = plain (record { kind = kind.Worded; is_kind = head_kind is; is = head (head_in is).is })

has_head : (text name : List ℕ) (k : UnitKind) (word : Option TypeWord) (all : List (List ℕ)) → HasForm text (f.Head k word name all) → u.IsHead text name
has_head text name k word all is = head_of text name k word all (form_head text (f.Head k word name all) (heads k word name all) is)

filled : {text name : List ℕ} → u.IsHead text name → length text ≡ 0 → ⊥
filled (u.program e n) z = let l = ap length e in absurd (omega (arith, l, z))
filled (u.subroutine e n) z = let l = ap length e in absurd (omega (arith, l, z))
filled (u.subroutine_list list e n l) z = let l = ap length e in absurd (omega (arith, l, z))
filled {name = name} (u.function word list e t n l) z = let l = ap length e in absurd (omega (arith, l, z, length-append word (codes "FUNCTION" ++ (name ++ list))))
filled (u.block e n) z = let l = ap length e in absurd (omega (arith, l, z))
filled (u.bare_block e n) z = let l = ap length e in absurd (omega (arith, l, z))

named_at : (unit : UnitText) (lines : List Line) → unit.statements ≡ lines → u.NamesUnit (first_text lines) unit.name → IsNamedByHead unit
named_at unit [] e (u.headed is) = absurd (filled is refl)
named_at unit [] e (u.main none m) = headless (λ first rest kind word name all cut h. let z : [] ≡ first ∷ rest = sym e ∙ cut in absurd (cc)) m
named_at unit (line ∷ lines) e (u.headed is) = let s = head_in is in headed line lines s.kind s.word s.dummies e (head_has is)
named_at unit (line ∷ lines) e (u.main none m) =
    headless (λ first rest kind word name all cut h. none name (has_head line.text name kind word all (subst (λ l. HasForm l.text (f.Head kind word name all)) (first_line first line rest lines (sym cut ∙ e)) h))) m

pub read_named : (lines : List (List ℕ)) (units : List UnitText) → Reads lines units → All IsNamedByHead units
read_named lines units reads = λ k d l. named_at (get_or units k d) (get_or units k d).statements refl (reads.named k d l).name

-- ---- trees

record FirstOf (lines : List Line) (s : Stmt) : Type 0 where
  line : Line
  rest : List Line
  cut : lines ≡ line ∷ rest
  is : IsStatement line s

first_of : (lines : List Line) (all : List Stmt) → AllZip IsStatement lines all → (first : Stmt) (rest : List Stmt) → all ≡ first ∷ rest → FirstOf lines first
first_of [] [] z first rest cut = absurd (cc)
first_of [] (s ∷ all) z first rest cut = absurd z
first_of (line ∷ lines) [] z first rest cut = absurd z
first_of (line ∷ lines) (s ∷ all) z first rest cut = let same : s ≡ first = cc in record { line = line; rest = lines; cut = refl; is = subst (IsStatement line) same z.0 }

its_name : OneForm → (unit : UnitText) → IsNamedByHead unit → GivesItsName unit
its_name one unit (headed line lines kind word dummies cut is) tree t first rest k w name all e made =
    let p = first_of unit.statements tree.statements t.statements first rest e in
    let here = subst (λ l. HasForm l.text (f.Head k w name all)) (first_line p.line line p.rest lines (sym p.cut ∙ cut)) (subst (HasForm p.line.text) made p.is.form) in
    names_same kind k word w unit.name name dummies all (one line.text (f.Head kind word unit.name dummies) (f.Head k w name all) is here) ∙ sym t.name
its_name one unit (headless none m) tree t first rest k w name all e made =
    let p = first_of unit.statements tree.statements t.statements first rest e in
    absurd (none p.line p.rest k w name all p.cut (subst (HasForm p.line.text) made p.is.form))

pub read_its_name : OneForm → (lines : List (List ℕ)) (units : List UnitText) → Reads lines units → All GivesItsName units
read_its_name one lines units reads = λ k d l. its_name one (get_or units k d) (read_named lines units reads k d l)

-- The heads of units.
use Rattle.std.proofs.Common.{◌≡◌, ℕ, ◌<◌, ◌≤◌, true, false, List, [], ◌∷◌, ◌++◌, Option, Some, None, MatchOption, Result, Ok, Err, IfOk, length, take, drop, codes, ap, sym, ◌∙◌, subst, refl, arith, append_assoc}
use Rattle.std.specs.declared.alloc.AllocError.{AllocError}
use Rattle.std.proofs.lemmas.List.{take-append-drop, append-nil}
use Rattle.f77_tree.specs.Names.{is_name, is_word, is_letter}
use Rattle.f77_tree.specs.declared.form.Form.{Form}
use Rattle.f77_tree.specs.declared.form.Form.TheVariants as f
use Rattle.f77_tree.specs.declared.form.TypeWord.{TypeWord}
use Rattle.f77_tree.specs.declared.form.TypeWord.TheVariants as ty
use Rattle.f77_tree.specs.declared.unit.UnitKind.TheVariants as unit
use Rattle.f77_expr.specs.Spelling.{Text}
use Rattle.fixed_form.specs.Heads.{Lacks}
use Rattle.fixed_form.specs.Words.{Stops, IsRun}
use Rattle.fixed_form.proofs.WordRuns.{Same, word_same, run_stops, name_word, false_true}
use Rattle.form_parts.specs.Only.{Sole, Never}
use Rattle.f77_forms.specs.HeadForms.{AreNamesIn, last_name, next_name, AreDummies, no_names, some_names, IsNamedList, IsProgram, IsSubroutine, bare, listed, type_spelling, IsFunction, IsBlock, named, nameless, IsHeadForm, program, subroutine, function, block, type_at, first_byte, IsFrontName, NoFrontName}
use Rattle.form_kinds.proofs.KindTests.{name_first}
use Rattle.form_kinds.proofs.Places.{tail_same}

-- ---- names between commas

front_same : {text : Text} {n : ℕ} → IsRun text n → (name : Text) (mark : ℕ) (rest : Text) → IsFrontName text name mark rest → Same (take n text) (drop n text) name (mark ∷ rest)
front_same {text} {n} run name mark rest f = word_same (take n text) (drop n text) name (mark ∷ rest) run.word (name_word name f.is) (run_stops run) f.ends (take-append-drop n text ∙ f.cut)

pub no_front_word : {text name : Text} {n : ℕ} → IsRun text n → name ≡ take n text → is_name name ≡ false → NoFrontName text
no_front_word run e wrong = record { not = λ name mark rest f. false_true wrong (ap is_name (e ∙ (front_same run name mark rest f).piece) ∙ f.is) }

head_same : {a b : ℕ} {x y : Text} → a ∷ x ≡ b ∷ y → a ≡ b
head_same e = cc

cut_same : {text name rest : Text} {mark : ℕ} → IsFrontName text name mark rest → (other : Text) (m : ℕ) (r : Text) → text ≡ other ++ m ∷ r → is_name other ≡ true → is_word m ≡ false → Same name (mark ∷ rest) other (m ∷ r)
cut_same {name = name} {rest = rest} {mark = mark} front other m r e is ends = word_same name (mark ∷ rest) other (m ∷ r) (name_word name front.is) (name_word other is) front.ends ends (sym front.cut ∙ e)

last_same : {text name rest : Text} {names : List Text} → IsFrontName text name 41 rest → AreNamesIn text names → names ≡ name ∷ []
last_same front (last_name other e is all) = all ∙ ap (λ n. n ∷ []) (sym (cut_same front other 41 [] e is refl).piece)
last_same front (next_name other r e is more all) = let marks : 41 ≡ 44 = head_same (cut_same front other 44 r e is refl).rest in absurd (omega (arith, marks))

pub names_last : {text name rest : Text} → IsFrontName text name 41 rest → rest ≡ [] → Sole AreNamesIn text (name ∷ [])
names_last {name = name} front e = record { is = last_name name (front.cut ∙ ap (λ r. name ++ 41 ∷ r) e) front.is refl; only = λ names a. last_same front a }

next_same : {text name rest : Text} {others names : List Text} → IsFrontName text name 44 rest → Sole AreNamesIn rest others → AreNamesIn text names → names ≡ name ∷ others
next_same front sole (last_name other e is all) = let marks : 44 ≡ 41 = head_same (cut_same front other 41 [] e is refl).rest in absurd (omega (arith, marks))
next_same {name = name} front sole (next_name {others = more} other r e is a all) =
    let same = cut_same front other 44 r e is refl in
    all ∙ (ap (λ n. n ∷ more) (sym same.piece) ∙ ap (λ l. name ∷ l) (sole.only more (subst (λ r. AreNamesIn r more) (sym (tail_same same.rest)) a)))

pub names_more : {text name rest : Text} {others : List Text} → IsFrontName text name 44 rest → Sole AreNamesIn rest others → Sole AreNamesIn text (name ∷ others)
names_more {name = name} {rest = rest} front sole = record { is = next_name name rest front.cut front.is sole.is refl; only = λ names a. next_same front sole a }

no_next : {text name rest : Text} {names : List Text} → IsFrontName text name 44 rest → Never AreNamesIn rest → AreNamesIn text names → ⊥
no_next front never (last_name other e is all) = let marks : 44 ≡ 41 = head_same (cut_same front other 41 [] e is refl).rest in omega (arith, marks)
no_next front never (next_name {others = more} other r e is a all) = never.not more (subst (λ r. AreNamesIn r more) (sym (tail_same (cut_same front other 44 r e is refl).rest)) a)

pub never_more : {text name rest : Text} → IsFrontName text name 44 rest → Never AreNamesIn rest → Never AreNamesIn text
never_more front never = record { not = λ names a. no_next front never a }

no_closed : {text name rest : Text} {names : List Text} → IsFrontName text name 41 rest → 0 < length rest → AreNamesIn text names → ⊥
no_closed front h (last_name other e is all) = omega (arith, h, ap length (tail_same (cut_same front other 41 [] e is refl).rest))
no_closed front h (next_name other r e is a all) = let marks : 41 ≡ 44 = head_same (cut_same front other 44 r e is refl).rest in omega (arith, marks)

pub never_closed : {text name rest : Text} → IsFrontName text name 41 rest → 0 < length rest → Never AreNamesIn text
never_closed front h = record { not = λ names a. no_closed front h a }

no_mark : {text name rest : Text} {mark : ℕ} {names : List Text} → IsFrontName text name mark rest → (mark ≡ 41 → ⊥) → (mark ≡ 44 → ⊥) → AreNamesIn text names → ⊥
no_mark front a b (last_name other e is all) = a (head_same (cut_same front other 41 [] e is refl).rest)
no_mark front a b (next_name other r e is more all) = b (head_same (cut_same front other 44 r e is refl).rest)

pub never_mark : {text name rest : Text} {mark : ℕ} → IsFrontName text name mark rest → (mark ≡ 41 → ⊥) → (mark ≡ 44 → ⊥) → Never AreNamesIn text
never_mark front a b = record { not = λ names l. no_mark front a b l }

no_front : {text : Text} {names : List Text} → NoFrontName text → AreNamesIn text names → ⊥
no_front none (last_name other e is all) = none.not other 41 [] (record { cut = e; is = is; ends = refl })
no_front none (next_name other r e is more all) = none.not other 44 r (record { cut = e; is = is; ends = refl })

pub never_front : {text : Text} → NoFrontName text → Never AreNamesIn text
never_front none = record { not = λ names l. no_front none l }

pub front_shorter : {text name rest : Text} {mark : ℕ} → IsFrontName text name mark rest → length rest < length text
front_shorter {name = name} {rest = rest} {mark = mark} front = let less = behind_less name (mark ∷ rest) in omega (arith, less, ap length front.cut)
  where
    behind_less : (p q : Text) → length q ≤ length (p ++ q)
    behind_less [] q = omega arith
    behind_less (b ∷ p) q = let less = behind_less p q in omega (arith, less)

-- ---- a list of dummies

close_no_letter : is_letter 41 ≡ true → ⊥
close_no_letter h = cc

no_name_close : (name more : Text) → is_name name ≡ true → 41 ∷ [] ≡ name ++ more → ⊥
no_name_close [] more h e = cc
no_name_close (b ∷ name) more h e = let first : b ≡ 41 = sym (head_same e) in close_no_letter (subst (λ b. is_letter b ≡ true) first (name_first b name h))

none_in : {text : Text} {names : List Text} → text ≡ 41 ∷ [] → AreNamesIn text names → ⊥
none_in e (last_name name f is all) = no_name_close name (41 ∷ []) is (sym e ∙ f)
none_in e (next_name name rest f is more all) = no_name_close name (44 ∷ rest) is (sym e ∙ f)

empty_same : {text : Text} {names : List Text} → text ≡ codes "()" → AreDummies text names → names ≡ []
empty_same e (no_names f all) = all
empty_same e (some_names rest f a) = let close : 41 ∷ [] ≡ rest = cc (e, f) in absurd (none_in (sym close) a)

pub sole_none : {text : Text} → text ≡ codes "()" → Sole AreDummies text []
sole_none e = record { is = no_names e refl; only = λ names d. empty_same e d }

no_dummies_open : {text : Text} {names : List Text} → (text ≡ codes "()" → ⊥) → Lacks text (codes "(") → AreDummies text names → ⊥
no_dummies_open other lacks (no_names e all) = other e
no_dummies_open other lacks (some_names rest e a) = lacks.not rest e

pub never_open : {text : Text} → (text ≡ codes "()" → ⊥) → Lacks text (codes "(") → Never AreDummies text
never_open other lacks = record { not = λ names d. no_dummies_open other lacks d }

names_inside : {text rest : Text} {names : List Text} → (text ≡ codes "()" → ⊥) → text ≡ codes "(" ++ rest → AreDummies text names → AreNamesIn rest names
names_inside other e (no_names f all) = absurd (other f)
names_inside {names = names} other e (some_names r f a) = let same : r ≡ _ = cc (e, f) in subst (λ r. AreNamesIn r names) same a

pub found_dummies : {text rest : Text} (r : Result (Option (List Text)) AllocError) → (text ≡ codes "()" → ⊥) → text ≡ codes "(" ++ rest → IfOk r (λ found. MatchOption found (Never AreNamesIn rest) (λ names. Sole AreNamesIn rest names)) →
    IfOk r (λ found. MatchOption found (Never AreDummies text) (λ names. Sole AreDummies text names))
found_dummies (Ok None) other e h = record { not = λ names d. h.not names (names_inside other e d) }
found_dummies {rest = rest} (Ok (Some all)) other e h = record { is = some_names rest e h.is; only = λ names d. h.only names (names_inside other e d) }
found_dummies (Err x) other e h = tt

-- ---- a name and its list

pub list_stops : {list : Text} {names : List Text} → AreDummies list names → Stops list
list_stops (no_names e all) = subst Stops (sym e) refl
list_stops (some_names rest e a) = subst Stops (sym e) refl

named_same : {text : Text} {n : ℕ} → IsRun text n → (parts : Text × List Text) → (l : IsNamedList text parts) → Same (take n text) (drop n text) parts.0 l.list
named_same {text} {n} run parts l = word_same (take n text) (drop n text) parts.0 l.list run.word (name_word parts.0 l.named) (run_stops run) (list_stops l.listed) (take-append-drop n text ∙ l.cut)

pub never_named_word : {text name : Text} {n : ℕ} → IsRun text n → name ≡ take n text → is_name name ≡ false → Never IsNamedList text
never_named_word run e wrong = record { not = λ parts l. false_true wrong (ap is_name (e ∙ (named_same run parts l).piece) ∙ l.named) }

pub never_named_list : {text list : Text} {n : ℕ} → IsRun text n → list ≡ drop n text → Never AreDummies list → Never IsNamedList text
never_named_list run e never = record { not = λ parts l. never.not parts.1 (subst (λ t. AreDummies t parts.1) (sym (e ∙ (named_same run parts l).rest)) l.listed) }

abbrev pub pair : Text → List Text → Text × List Text
pair name names = (name, names)

named_only : {text name list : Text} {n : ℕ} {names : List Text} → IsRun text n → name ≡ take n text → list ≡ drop n text → Sole AreDummies list names → (parts : Text × List Text) → IsNamedList text parts → parts ≡ pair name names
named_only {name = name} run e g sole parts l =
    let same = named_same run parts l in
    ap (λ n. pair n parts.1) (sym (e ∙ same.piece)) ∙ ap (λ l. pair name l) (sole.only parts.1 (subst (λ t. AreDummies t parts.1) (sym (g ∙ same.rest)) l.listed))

pub sole_named : {text name list : Text} {n : ℕ} {names : List Text} → IsRun text n → name ≡ take n text → list ≡ drop n text → is_name name ≡ true → Sole AreDummies list names → Sole IsNamedList text (pair name names)
sole_named {text} {name} {list} {n} run e g is sole = record {
  is = record { list = list; cut = sym (take-append-drop n text) ∙ (ap (λ w. w ++ drop n text) (sym e) ∙ ap (λ r. name ++ r) (sym g)); named = is; listed = sole.is };
  only = λ parts l. named_only run e g sole parts l;
}

-- ---- each kind of head

pub never_program : {text : Text} → Lacks text (codes "PROGRAM") → Never IsProgram text
never_program lacks = record { not = λ form p. lacks.not p.name p.cut }

pub program_name : {text name other : Text} → text ≡ codes "PROGRAM" ++ name → text ≡ codes "PROGRAM" ++ other → other ≡ name
program_name e g = cc (e, g)

pub never_program_name : {text name : Text} → text ≡ codes "PROGRAM" ++ name → is_name name ≡ false → Never IsProgram text
never_program_name e wrong = record { not = λ form p. false_true wrong (ap is_name (sym (program_name e p.cut)) ∙ p.named) }

pub sole_program : {text name : Text} → text ≡ codes "PROGRAM" ++ name → is_name name ≡ true → Sole IsProgram text (f.Head unit.Main None name [])
sole_program {name = name} e is = record { is = record { name = name; cut = e; named = is; made = refl }; only = λ form p. p.made ∙ ap (λ n. f.Head unit.Main None n []) (program_name e p.cut) }

pub subroutine_rest : {text rest other : Text} → text ≡ codes "SUBROUTINE" ++ rest → text ≡ codes "SUBROUTINE" ++ other → other ≡ rest
subroutine_rest e g = cc (e, g)

no_subroutine_at : {text : Text} {form : Form} → Lacks text (codes "SUBROUTINE") → IsSubroutine text form → ⊥
no_subroutine_at lacks (bare name e is made) = lacks.not name e
no_subroutine_at lacks (listed rest parts e l made) = lacks.not rest e

pub never_subroutine : {text : Text} → Lacks text (codes "SUBROUTINE") → Never IsSubroutine text
never_subroutine lacks = record { not = λ form s. no_subroutine_at lacks s }

-- a text that is a name is no name with a list
pub named_no_list : {text : Text} {parts : Text × List Text} → is_name text ≡ true → IsNamedList text parts → ⊥
named_no_list {text} {parts} is l =
    let whole : text ++ [] ≡ parts.0 ++ l.list = append-nil text ∙ l.cut in
    let same = word_same text [] parts.0 l.list (name_word text is) (name_word parts.0 l.named) tt (list_stops l.listed) whole in
    list_filled l.listed (sym same.rest)
  where
    list_filled : {list : Text} {names : List Text} → AreDummies list names → list ≡ [] → ⊥
    list_filled (no_names e all) g = omega (arith, ap length e, ap length g)
    list_filled (some_names rest e a) g = omega (arith, ap length e, ap length g)

bare_same : {text rest : Text} {form : Form} → text ≡ codes "SUBROUTINE" ++ rest → is_name rest ≡ true → IsSubroutine text form → form ≡ f.Head unit.Subroutine None rest []
bare_same e is (bare name g other made) = made ∙ ap (λ n. f.Head unit.Subroutine None n []) (subroutine_rest e g)
bare_same e is (listed r parts g l made) = absurd (named_no_list is (subst (λ r. IsNamedList r parts) (subroutine_rest e g) l))

pub sole_bare_subroutine : {text rest : Text} → text ≡ codes "SUBROUTINE" ++ rest → is_name rest ≡ true → Sole IsSubroutine text (f.Head unit.Subroutine None rest [])
sole_bare_subroutine {rest = rest} e is = record { is = bare rest e is refl; only = λ form s. bare_same e is s }

listed_same : {text rest name : Text} {names : List Text} {form : Form} → text ≡ codes "SUBROUTINE" ++ rest → is_name rest ≡ false → Sole IsNamedList rest (pair name names) → IsSubroutine text form → form ≡ f.Head unit.Subroutine None name names
listed_same e wrong sole (bare other g is made) = absurd (false_true wrong (ap is_name (sym (subroutine_rest e g)) ∙ is))
listed_same e wrong sole (listed r parts g l made) = made ∙ ap (λ (p : Text × List Text). f.Head unit.Subroutine None p.0 p.1) (sole.only parts (subst (λ r. IsNamedList r parts) (subroutine_rest e g) l))

pub sole_subroutine : {text rest name : Text} {names : List Text} → text ≡ codes "SUBROUTINE" ++ rest → is_name rest ≡ false → Sole IsNamedList rest (pair name names) → Sole IsSubroutine text (f.Head unit.Subroutine None name names)
sole_subroutine {rest = rest} {name = name} {names = names} e wrong sole = record { is = listed rest (pair name names) e sole.is refl; only = λ form s. listed_same e wrong sole s }

no_subroutine_list : {text rest : Text} {form : Form} → text ≡ codes "SUBROUTINE" ++ rest → is_name rest ≡ false → Never IsNamedList rest → IsSubroutine text form → ⊥
no_subroutine_list e wrong never (bare other g is made) = false_true wrong (ap is_name (sym (subroutine_rest e g)) ∙ is)
no_subroutine_list e wrong never (listed r parts g l made) = never.not parts (subst (λ r. IsNamedList r parts) (subroutine_rest e g) l)

pub never_subroutine_list : {text rest : Text} → text ≡ codes "SUBROUTINE" ++ rest → is_name rest ≡ false → Never IsNamedList rest → Never IsSubroutine text
never_subroutine_list e wrong never = record { not = λ form s. no_subroutine_list e wrong never s }

-- the first letter tells the type of a function
type_first : (typed : Option TypeWord) (rest : Text) → type_at (first_byte (type_spelling typed ++ (codes "FUNCTION" ++ rest))) ≡ typed
type_first None rest = refl
type_first (Some ty.Integer) rest = refl
type_first (Some ty.Logical) rest = refl
type_first (Some ty.Real) rest = refl
type_first (Some ty.DoublePrecision) rest = refl
type_first (Some ty.Complex) rest = refl

pub function_typed : {text : Text} {typed : Option TypeWord} {form : Form} → typed ≡ type_at (first_byte text) → (g : IsFunction text form) → g.typed ≡ typed
function_typed e g = sym (type_first g.typed g.rest) ∙ (ap (λ t. type_at (first_byte t)) (sym g.cut) ∙ sym e)

function_behind : (typed : Option TypeWord) {text behind rest : Text} → text ≡ type_spelling typed ++ behind → text ≡ type_spelling typed ++ (codes "FUNCTION" ++ rest) → behind ≡ codes "FUNCTION" ++ rest
function_behind None e g = sym e ∙ g
function_behind (Some ty.Integer) e g = cc (e, g)
function_behind (Some ty.Logical) e g = cc (e, g)
function_behind (Some ty.Real) e g = cc (e, g)
function_behind (Some ty.DoublePrecision) e g = cc (e, g)
function_behind (Some ty.Complex) e g = cc (e, g)

pub never_function_type : {text : Text} (typed : Option TypeWord) → typed ≡ type_at (first_byte text) → Lacks text (type_spelling typed) → Never IsFunction text
never_function_type {text} typed e lacks = record { not = λ form g. lacks.not (codes "FUNCTION" ++ g.rest) (subst (λ t. text ≡ type_spelling t ++ (codes "FUNCTION" ++ g.rest)) (function_typed e g) g.cut) }

pub function_cut : {text behind : Text} (typed : Option TypeWord) {form : Form} → typed ≡ type_at (first_byte text) → text ≡ type_spelling typed ++ behind → (g : IsFunction text form) → behind ≡ codes "FUNCTION" ++ g.rest
function_cut {text} typed e cut g = function_behind typed cut (subst (λ t. text ≡ type_spelling t ++ (codes "FUNCTION" ++ g.rest)) (function_typed e g) g.cut)

pub never_function_word : {text behind : Text} (typed : Option TypeWord) → typed ≡ type_at (first_byte text) → text ≡ type_spelling typed ++ behind → Lacks behind (codes "FUNCTION") → Never IsFunction text
never_function_word typed e cut lacks = record { not = λ form g. lacks.not g.rest (function_cut typed e cut g) }

pub function_rest : {behind rest other : Text} → behind ≡ codes "FUNCTION" ++ rest → behind ≡ codes "FUNCTION" ++ other → other ≡ rest
function_rest e g = cc (e, g)

pub never_function_list : {text behind rest : Text} (typed : Option TypeWord) → typed ≡ type_at (first_byte text) → text ≡ type_spelling typed ++ behind → behind ≡ codes "FUNCTION" ++ rest → Never IsNamedList rest → Never IsFunction text
never_function_list typed e cut word never = record { not = λ form g. never.not g.parts (subst (λ r. IsNamedList r g.parts) (function_rest word (function_cut typed e cut g)) g.listed) }

function_same : {text behind rest name : Text} {names : List Text} (typed : Option TypeWord) {form : Form} → typed ≡ type_at (first_byte text) → text ≡ type_spelling typed ++ behind → behind ≡ codes "FUNCTION" ++ rest → Sole IsNamedList rest (pair name names) → IsFunction text form → form ≡ f.Head unit.Function typed name names
function_same typed e cut word sole g =
    let parts = sole.only g.parts (subst (λ r. IsNamedList r g.parts) (function_rest word (function_cut typed e cut g)) g.listed) in
    g.made ∙ (ap (λ t. f.Head unit.Function t g.parts.0 g.parts.1) (function_typed e g) ∙ ap (λ (p : Text × List Text). f.Head unit.Function typed p.0 p.1) parts)

pub sole_function : {text behind rest name : Text} {names : List Text} (typed : Option TypeWord) → typed ≡ type_at (first_byte text) → text ≡ type_spelling typed ++ behind → behind ≡ codes "FUNCTION" ++ rest → Sole IsNamedList rest (pair name names) → Sole IsFunction text (f.Head unit.Function typed name names)
sole_function {rest = rest} {name = name} {names = names} typed e cut word sole = record {
  is = record { typed = typed; rest = rest; parts = pair name names; cut = cut ∙ ap (λ b. type_spelling typed ++ b) word; listed = sole.is; made = refl };
  only = λ form g. function_same typed e cut word sole g;
}

-- ---- BLOCK DATA

pub block_rest : {text rest other : Text} → text ≡ codes "BLOCKDATA" ++ rest → text ≡ codes "BLOCKDATA" ++ other → other ≡ rest
block_rest e g = cc (e, g)

no_block_at : {text : Text} {form : Form} → Lacks text (codes "BLOCKDATA") → IsBlock text form → ⊥
no_block_at lacks (named name e is made) = lacks.not name e
no_block_at lacks (nameless e made) = lacks.not [] e

pub never_block : {text : Text} → Lacks text (codes "BLOCKDATA") → Never IsBlock text
never_block lacks = record { not = λ form b. no_block_at lacks b }

nameless_same : {text rest : Text} {form : Form} → text ≡ codes "BLOCKDATA" ++ rest → rest ≡ [] → IsBlock text form → form ≡ f.Head unit.BlockData None (codes "BLOCKDATA") []
nameless_same e none (named name g is made) = absurd (empty_name (block_rest e g ∙ none) is)
  where
    empty_name : {name : Text} → name ≡ [] → is_name name ≡ true → ⊥
    empty_name e is = let wrong : false ≡ true = sym (ap is_name e) ∙ is in cc
nameless_same e none (nameless g made) = made

pub sole_nameless : {text rest : Text} → text ≡ codes "BLOCKDATA" ++ rest → rest ≡ [] → Sole IsBlock text (f.Head unit.BlockData None text [])
sole_nameless {text} e none =
    let whole : text ≡ codes "BLOCKDATA" = e ∙ ap (λ r. codes "BLOCKDATA" ++ r) none in
    record { is = nameless whole (ap (λ n. f.Head unit.BlockData None n []) whole); only = λ form b. nameless_same e none b ∙ ap (λ n. f.Head unit.BlockData None n []) (sym whole) }

block_same : {text rest : Text} {form : Form} → text ≡ codes "BLOCKDATA" ++ rest → 0 < length rest → IsBlock text form → form ≡ f.Head unit.BlockData None rest []
block_same e h (named name g is made) = made ∙ ap (λ n. f.Head unit.BlockData None n []) (block_rest e g)
block_same e h (nameless g made) = absurd (omega (arith, h, ap length (block_rest e g)))

pub sole_block : {text rest : Text} → text ≡ codes "BLOCKDATA" ++ rest → 0 < length rest → is_name rest ≡ true → Sole IsBlock text (f.Head unit.BlockData None rest [])
sole_block {rest = rest} e h is = record { is = named rest e is refl; only = λ form b. block_same e h b }

no_block_name : {text rest : Text} {form : Form} → text ≡ codes "BLOCKDATA" ++ rest → 0 < length rest → is_name rest ≡ false → IsBlock text form → ⊥
no_block_name e h wrong (named name g is made) = false_true wrong (ap is_name (sym (block_rest e g)) ∙ is)
no_block_name e h wrong (nameless g made) = omega (arith, h, ap length (block_rest e g))

pub never_block_name : {text rest : Text} → text ≡ codes "BLOCKDATA" ++ rest → 0 < length rest → is_name rest ≡ false → Never IsBlock text
never_block_name e h wrong = record { not = λ form b. no_block_name e h wrong b }

-- ---- the names so far

pub found_last : {text rest name after : Text} {mark : ℕ} {all : List Text} (old : List Text) (r : Option (List Text)) → IsFrontName rest name mark after → mark ≡ 41 → all ≡ old ++ name ∷ [] → MatchOption r (0 < length after) (λ names. (after ≡ []) × (names ≡ all)) →
    ((others : List Text) → Sole AreNamesIn rest others → Sole AreNamesIn text (old ++ others)) → (Never AreNamesIn rest → Never AreNamesIn text) → MatchOption r (Never AreNamesIn text) (λ names. Sole AreNamesIn text names)
found_last {rest = rest} {name = name} {after = after} old None front e g h sole never = never (never_closed (subst (λ m. IsFrontName rest name m after) e front) h)
found_last {text} {rest = rest} {name = name} {after = after} old (Some names) front e g h sole never =
    subst (λ l. Sole AreNamesIn text l) (sym (h.1 ∙ g)) (sole (name ∷ []) (names_last (subst (λ m. IsFrontName rest name m after) e front) h.0))

pub sole_next : {text rest name after : Text} {mark : ℕ} {all : List Text} (old : List Text) → IsFrontName rest name mark after → mark ≡ 44 → all ≡ old ++ name ∷ [] → ((others : List Text) → Sole AreNamesIn rest others → Sole AreNamesIn text (old ++ others)) →
    (others : List Text) → Sole AreNamesIn after others → Sole AreNamesIn text (all ++ others)
sole_next {text} {rest = rest} {name = name} {after = after} old front e g sole others s =
    subst (λ l. Sole AreNamesIn text l) (sym (ap (λ l. l ++ others) g ∙ append_assoc old (name ∷ []) others)) (sole (name ∷ others) (names_more (subst (λ m. IsFrontName rest name m after) e front) s))

pub never_next : {text rest name after : Text} {mark : ℕ} → IsFrontName rest name mark after → mark ≡ 44 → (Never AreNamesIn rest → Never AreNamesIn text) → Never AreNamesIn after → Never AreNamesIn text
never_next {rest = rest} {name = name} {after = after} front e never n = never (never_more (subst (λ m. IsFrontName rest name m after) e front) n)

-- ---- all heads

abbrev pub Begins : ℕ → Text → Type 0
Begins b text = first_byte text ≡ b

pub subroutine_first : {text : Text} {form : Form} → IsSubroutine text form → first_byte text ≡ 83
subroutine_first (bare name e is made) = ap first_byte e
subroutine_first (listed rest parts e l made) = ap first_byte e

pub block_first : {text : Text} {form : Form} → IsBlock text form → first_byte text ≡ 66
block_first (named name e is made) = ap first_byte e
block_first (nameless e made) = ap first_byte e

-- the letters with which the head of a function begins
function_letter : (typed : Option TypeWord) (rest : Text) (b : ℕ) → first_byte (type_spelling typed ++ (codes "FUNCTION" ++ rest)) ≡ b → (b ≡ 80 → ⊥) × (b ≡ 83 → ⊥) × (b ≡ 66 → ⊥)
function_letter None rest b e = (λ h. omega (arith, e, h), λ h. omega (arith, e, h), λ h. omega (arith, e, h))
function_letter (Some ty.Integer) rest b e = (λ h. omega (arith, e, h), λ h. omega (arith, e, h), λ h. omega (arith, e, h))
function_letter (Some ty.Logical) rest b e = (λ h. omega (arith, e, h), λ h. omega (arith, e, h), λ h. omega (arith, e, h))
function_letter (Some ty.Real) rest b e = (λ h. omega (arith, e, h), λ h. omega (arith, e, h), λ h. omega (arith, e, h))
function_letter (Some ty.DoublePrecision) rest b e = (λ h. omega (arith, e, h), λ h. omega (arith, e, h), λ h. omega (arith, e, h))
function_letter (Some ty.Complex) rest b e = (λ h. omega (arith, e, h), λ h. omega (arith, e, h), λ h. omega (arith, e, h))

pub letters : {text : Text} {form : Form} → IsFunction text form → (first_byte text ≡ 80 → ⊥) × (first_byte text ≡ 83 → ⊥) × (first_byte text ≡ 66 → ⊥)
letters {text} g = function_letter g.typed g.rest (first_byte text) (sym (ap first_byte g.cut))

pub only_program : {text : Text} {form : Form} → first_byte text ≡ 80 → IsHeadForm text form → IsProgram text form
only_program e (program p) = p
only_program e (subroutine s) = absurd (omega (arith, e, subroutine_first s))
only_program e (function g) = absurd ((letters g).0 e)
only_program e (block b) = absurd (omega (arith, e, block_first b))

pub only_subroutine : {text : Text} {form : Form} → first_byte text ≡ 83 → IsHeadForm text form → IsSubroutine text form
only_subroutine e (program p) = absurd (omega (arith, e, ap first_byte p.cut))
only_subroutine e (subroutine s) = s
only_subroutine e (function g) = absurd ((letters g).1 e)
only_subroutine e (block b) = absurd (omega (arith, e, block_first b))

pub only_block : {text : Text} {form : Form} → first_byte text ≡ 66 → IsHeadForm text form → IsBlock text form
only_block e (program p) = absurd (omega (arith, e, ap first_byte p.cut))
only_block e (subroutine s) = absurd (omega (arith, e, subroutine_first s))
only_block e (function g) = absurd ((letters g).2 e)
only_block e (block b) = b

pub only_function : {text : Text} {form : Form} → (first_byte text ≡ 80 → ⊥) → (first_byte text ≡ 83 → ⊥) → (first_byte text ≡ 66 → ⊥) → IsHeadForm text form → IsFunction text form
only_function p s b (program x) = absurd (p (ap first_byte x.cut))
only_function p s b (subroutine x) = absurd (s (subroutine_first x))
only_function p s b (function x) = x
only_function p s b (block x) = absurd (b (block_first x))

-- the head of a text is of one kind
pub found_head : {text : Text} (Is : Text → Form → Type 0) (r : Result (Option Form) AllocError) → ((form : Form) → Is text form → IsHeadForm text form) → ((form : Form) → IsHeadForm text form → Is text form) →
    IfOk r (λ found. MatchOption found (Never Is text) (λ form. Sole Is text form)) → IfOk r (λ found. MatchOption found (Never IsHeadForm text) (λ form. Sole IsHeadForm text form))
found_head Is (Ok None) to back h = record { not = λ y i. h.not y (back y i) }
found_head Is (Ok (Some form)) to back h = record { is = to form h.is; only = λ y i. h.only y (back y i) }
found_head Is (Err x) to back h = tt

pub found_program : (text : Text) (r : Result (Option Form) AllocError) → first_byte text ≡ 80 → IfOk r (λ found. MatchOption found (Never IsProgram text) (λ form. Sole IsProgram text form)) → IfOk r (λ found. MatchOption found (Never IsHeadForm text) (λ form. Sole IsHeadForm text form))
found_program text r e h = found_head IsProgram r (λ form p. program p) (λ form i. only_program e i) h

pub found_subroutine : (text : Text) (r : Result (Option Form) AllocError) → first_byte text ≡ 83 → IfOk r (λ found. MatchOption found (Never IsSubroutine text) (λ form. Sole IsSubroutine text form)) → IfOk r (λ found. MatchOption found (Never IsHeadForm text) (λ form. Sole IsHeadForm text form))
found_subroutine text r e h = found_head IsSubroutine r (λ form p. subroutine p) (λ form i. only_subroutine e i) h

pub found_block : (text : Text) (r : Result (Option Form) AllocError) → first_byte text ≡ 66 → IfOk r (λ found. MatchOption found (Never IsBlock text) (λ form. Sole IsBlock text form)) → IfOk r (λ found. MatchOption found (Never IsHeadForm text) (λ form. Sole IsHeadForm text form))
found_block text r e h = found_head IsBlock r (λ form p. block p) (λ form i. only_block e i) h

pub found_function : (text : Text) (r : Result (Option Form) AllocError) → (first_byte text ≡ 80 → ⊥) → (first_byte text ≡ 83 → ⊥) → (first_byte text ≡ 66 → ⊥) → IfOk r (λ found. MatchOption found (Never IsFunction text) (λ form. Sole IsFunction text form)) →
    IfOk r (λ found. MatchOption found (Never IsHeadForm text) (λ form. Sole IsHeadForm text form))
found_function text r p s b h = found_head IsFunction r (λ form g. function g) (λ form i. only_function p s b i) h

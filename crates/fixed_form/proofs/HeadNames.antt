-- The name in a head.
use Rattle.std.proofs.Common.{◌≡◌, ℕ, suc, ◌<◌, Bool, true, false, ◌==◌, [], ◌∷◌, ◌++◌, length, take, drop, codes, ap, sym, ◌∙◌, subst, refl, arith, length-append, MatchBool, MatchOption, Option, Some, None, ◌⊎◌, inl, inr}
use Rattle.std.specs.Borrow.{Bor}
use Rattle.std.proofs.lemmas.List.{take-append-drop, append-nil}
use Rattle.std.proofs.lemmas.Bool.Decides.{nat_tests}
use Rattle.f77_tree.specs.Names.{is_word, is_name}
use Rattle.fixed_form.specs.Lines.{Text}
use Rattle.fixed_form.specs.Words.{Stops, IsRun}
use Rattle.fixed_form.specs.UnitNames.{AreNames, last_name, next_name, IsList, no_names, some_names, IsTypeWord, untyped, integer, logical, real, double_precision, complex, IsHead, program, subroutine, subroutine_list, function, block, bare_block}
use Rattle.fixed_form.specs.Heads.{Lacks, FrontName, NoFrontName, IsNamedList, NoNamedList, IsProgram, program_head, IsSubroutine, bare, listed, IsFunction, function_head, IsAnyFunction, any_function, IsBlock, named_block, no_name, NoHead}
use Rattle.fixed_form.proofs.WordRuns.{Same, word_same, run_stops, name_word, false_true}

-- ---- a word at the front

take_word : (word rest : Text) → take (length word) (word ++ rest) ≡ word
take_word [] rest = refl
take_word (b ∷ word) rest = ap (λ w. b ∷ w) (take_word word rest)

pub lacks_short : {text word : Text} → length text < length word → Lacks text word
lacks_short {text} {word} h = record { not = λ rest e. omega (arith, h, ap length e, length-append word rest) }

pub lacks_other : (text word : Text) → (take (length word) text ≡ word → ⊥) → Lacks text word
lacks_other text word h = record { not = λ rest e. h (ap (take (length word)) e ∙ take_word word rest) }

pub word_here : (text word front rest : Text) → front ≡ take (length word) text → rest ≡ drop (length word) text → front ≡ word → text ≡ word ++ rest
word_here text word front rest e f same = sym (take-append-drop (length word) text) ∙ (ap (λ w. w ++ drop (length word) text) (sym e ∙ same) ∙ ap (λ r. word ++ r) (sym f))

same_behind : {text : Text} (word a b : Text) → text ≡ word ++ a → text ≡ word ++ b → a ≡ b
same_behind [] a b e f = sym e ∙ f
same_behind {text} (c ∷ word) a b e f =
    let both : c ∷ (word ++ a) ≡ c ∷ (word ++ b) = sym e ∙ f in
    let tails : word ++ a ≡ word ++ b = cc in
    same_behind {text = word ++ a} word a b refl tails

-- ---- names between commas

pub front_name_at : {text name behind rest : Text} {n mark : ℕ} → IsRun text n → name ≡ take n text → behind ≡ drop n text → is_name name ≡ true → behind ≡ mark ∷ rest → FrontName text mark rest
front_name_at {text} {name} {behind} {rest} {n} {mark} run e f is g = record {
  name = name;
  cut = sym (take-append-drop n text) ∙ (ap (λ w. w ++ drop n text) (sym e) ∙ ap (λ r. name ++ r) (sym f ∙ g));
  is = is;
  ends = let stop : Stops (mark ∷ rest) = subst Stops (sym f ∙ g) (run_stops run) in stop;
}

split_at_name : {text : Text} {n : ℕ} → IsRun text n → (name : Text) (mark : ℕ) (rest : Text) → text ≡ name ++ mark ∷ rest → is_name name ≡ true → is_word mark ≡ false → Same (take n text) (drop n text) name (mark ∷ rest)
split_at_name {text} {n} run name mark rest e is ends = word_same (take n text) (drop n text) name (mark ∷ rest) run.word (name_word name is) (run_stops run) ends (take-append-drop n text ∙ e)

pub no_front_word : {text name : Text} {n : ℕ} → IsRun text n → name ≡ take n text → is_name name ≡ false → NoFrontName text
no_front_word run e wrong = record {
  not = λ name mark rest f is ends. let same = split_at_name run name mark rest f is ends in false_true wrong (ap is_name (e ∙ same.piece) ∙ is);
}

pub no_front_mark : {text behind : Text} {n : ℕ} → IsRun text n → behind ≡ drop n text → length behind ≡ 0 → NoFrontName text
no_front_mark run e none = record {
  not = λ name mark rest f is ends. let same = split_at_name run name mark rest f is ends in omega (arith, none, ap length e, ap length same.rest);
}

front_name_same : {text rest : Text} {mark : ℕ} (front : FrontName text mark rest) (name : Text) (m : ℕ) (r : Text) → text ≡ name ++ m ∷ r → is_name name ≡ true → is_word m ≡ false → Same front.name (mark ∷ rest) name (m ∷ r)
front_name_same {rest = rest} {mark = mark} front name m r e is ends = word_same front.name (mark ∷ rest) name (m ∷ r) (name_word front.name front.is) (name_word name is) front.ends ends (sym front.cut ∙ e)

mark_same : {a b : ℕ} {x y : Text} → a ∷ x ≡ b ∷ y → a ≡ b
mark_same e = cc

rest_same : {a b : ℕ} {x y : Text} → a ∷ x ≡ b ∷ y → x ≡ y
rest_same e = cc

pub names_end : {text rest : Text} → FrontName text 41 rest → rest ≡ [] → AreNames text
names_end front e = last_name front.name (front.cut ∙ ap (λ r. front.name ++ 41 ∷ r) e) front.is

pub names_more : {text rest : Text} → FrontName text 44 rest → AreNames rest → AreNames text
names_more {rest = rest} front more = next_name front.name rest front.cut front.is more

pub names_closed : {text rest : Text} → FrontName text 41 rest → AreNames text → rest ≡ []
names_closed front (last_name name e is) = rest_same (front_name_same front name 41 [] e is refl).rest
names_closed front (next_name name rest e is more) = let no_way : 41 ≡ 44 = mark_same (front_name_same front name 44 rest e is refl).rest in absurd (omega (arith, no_way))

pub names_behind : {text rest : Text} → FrontName text 44 rest → AreNames text → AreNames rest
names_behind front (last_name name e is) = let no_way : 44 ≡ 41 = mark_same (front_name_same front name 41 [] e is refl).rest in absurd (omega (arith, no_way))
names_behind front (next_name name rest e is more) = subst AreNames (sym (rest_same (front_name_same front name 44 rest e is refl).rest)) more

pub names_marked : {text rest : Text} {mark : ℕ} → FrontName text mark rest → AreNames text → (mark ≡ 41) ⊎ (mark ≡ 44)
names_marked front (last_name name e is) = inl (mark_same (front_name_same front name 41 [] e is refl).rest)
names_marked front (next_name name rest e is more) = inr (mark_same (front_name_same front name 44 rest e is refl).rest)

pub no_names_here : {text : Text} → NoFrontName text → AreNames text → ⊥
no_names_here wrong (last_name name e is) = wrong.not name 41 [] e is refl
no_names_here wrong (next_name name rest e is more) = wrong.not name 44 rest e is refl

suc_not_zero : (n : ℕ) → (suc n == 0) ≡ true → ⊥
suc_not_zero n e = grind (arith, nat_tests)

pub names_ended : {text rest : Text} (after : Text) (b : Bool) → b ≡ (length after == 0) → FrontName rest 41 after → (AreNames rest → AreNames text) → (AreNames text → AreNames rest) → MatchBool b (AreNames text) (AreNames text → ⊥)
names_ended [] true e front there back = there (names_end front refl)
names_ended [] false e front there back = absurd cc
names_ended (c ∷ after) true e front there back = absurd (suc_not_zero (length after) (sym e))
names_ended (c ∷ after) false e front there back = λ names. omega (arith, ap length (names_closed front (back names)))

pub front_name_shorter : {text rest : Text} {mark : ℕ} → FrontName text mark rest → length rest < length text
front_name_shorter {rest = rest} {mark = mark} front = omega (arith, ap length front.cut, length-append front.name (mark ∷ rest))

-- ---- lists

list_stops : {list : Text} → IsList list → Stops list
list_stops (no_names e) = subst Stops (sym e) refl
list_stops (some_names rest e names) = subst Stops (sym e) refl

pub no_list_word : {text : Text} → (text ≡ codes "()" → ⊥) → Lacks text (40 ∷ []) → IsList text → ⊥
no_list_word wrong lacks (no_names e) = wrong e
no_list_word wrong lacks (some_names rest e names) = lacks.not rest e

pub no_list_names : {text rest : Text} → (text ≡ codes "()" → ⊥) → text ≡ 40 ∷ rest → (AreNames rest → ⊥) → IsList text → ⊥
no_list_names wrong e none (no_names f) = wrong f
no_list_names wrong e none (some_names rest f names) = none (subst AreNames (rest_same (sym f ∙ e)) names)

pub list_of : {text rest : Text} (b : Bool) → (text ≡ codes "()" → ⊥) → text ≡ 40 ∷ rest → MatchBool b (AreNames rest) (AreNames rest → ⊥) → MatchBool b (IsList text) (IsList text → ⊥)
list_of {rest = rest} true wrong e names = some_names rest e names
list_of false wrong e none = no_list_names wrong e none

-- ---- names with lists

named_at : {text : Text} {n : ℕ} → IsRun text n → (name : Text) → (l : IsNamedList text name) → Same (take n text) (drop n text) name l.list
named_at {text} {n} run name l = word_same (take n text) (drop n text) name l.list run.word (name_word name l.is) (run_stops run) (list_stops l.listed) (take-append-drop n text ∙ l.cut)

pub no_named_word : {text name : Text} {n : ℕ} → IsRun text n → name ≡ take n text → is_name name ≡ false → NoNamedList text
no_named_word run e wrong = record { not = λ other l. let same = named_at run other l in false_true wrong (ap is_name (e ∙ same.piece) ∙ l.is) }

pub no_named_list : {text list : Text} {n : ℕ} → IsRun text n → list ≡ drop n text → (IsList list → ⊥) → NoNamedList text
no_named_list run e none = record { not = λ other l. let same = named_at run other l in none (subst IsList (sym (e ∙ same.rest)) l.listed) }

pub named_list_at : {text name list : Text} (n : ℕ) → name ≡ take n text → list ≡ drop n text → is_name name ≡ true → IsList list → IsNamedList text name
named_list_at {text} {name} {list} n e f is l = record {
  list = list;
  cut = sym (take-append-drop n text) ∙ (ap (λ w. w ++ drop n text) (sym e) ∙ ap (λ r. name ++ r) (sym f));
  is = is;
  listed = l;
}

-- ---- heads

lacks_program : {text name : Text} → Lacks text (codes "PROGRAM") → IsProgram text name → ⊥
lacks_program {name = name} lacks (program_head e is) = lacks.not name e

pub no_program : {text : Text} → Lacks text (codes "PROGRAM") → NoHead IsProgram text
no_program lacks = record { not = λ name head. lacks_program lacks head }

other_program : {text name rest : Text} → text ≡ codes "PROGRAM" ++ rest → is_name rest ≡ false → IsProgram text name → ⊥
other_program {name = name} {rest = rest} e wrong (program_head f is) = false_true wrong (ap is_name (same_behind (codes "PROGRAM") rest name e f) ∙ is)

pub no_program_name : {text rest : Text} → text ≡ codes "PROGRAM" ++ rest → is_name rest ≡ false → NoHead IsProgram text
no_program_name e wrong = record { not = λ name head. other_program e wrong head }

lacks_subroutine : {text name : Text} → Lacks text (codes "SUBROUTINE") → IsSubroutine text name → ⊥
lacks_subroutine {name = name} lacks (bare e is) = lacks.not name e
lacks_subroutine lacks (listed rest e l) = lacks.not rest e

pub no_subroutine : {text : Text} → Lacks text (codes "SUBROUTINE") → NoHead IsSubroutine text
no_subroutine lacks = record { not = λ name head. lacks_subroutine lacks head }

other_subroutine : {text name rest : Text} → text ≡ codes "SUBROUTINE" ++ rest → is_name rest ≡ false → NoNamedList rest → IsSubroutine text name → ⊥
other_subroutine {name = name} {rest = rest} e wrong none (bare f is) = false_true wrong (ap is_name (same_behind (codes "SUBROUTINE") rest name e f) ∙ is)
other_subroutine {name = name} {rest = rest} e wrong none (listed other f l) = none.not name (subst (λ r. IsNamedList r name) (sym (same_behind (codes "SUBROUTINE") rest other e f)) l)

pub subroutine_of : {text rest : Text} (r : Option (Bor Text)) → text ≡ codes "SUBROUTINE" ++ rest → is_name rest ≡ false → MatchOption r (NoNamedList rest) (λ name. IsNamedList rest name.now) → MatchOption r (NoHead IsSubroutine text) (λ name. IsSubroutine text name.now)
subroutine_of None e wrong h = record { not = λ name head. other_subroutine e wrong h head }
subroutine_of {rest = rest} (Some name) e wrong h = listed rest e h

lacks_block : {text name : Text} → Lacks text (codes "BLOCKDATA") → IsBlock text name → ⊥
lacks_block {name = name} lacks (named_block e is) = lacks.not name e
lacks_block {text} lacks (no_name e f) = lacks.not [] (e ∙ sym (append-nil (codes "BLOCKDATA")))

pub no_block : {text : Text} → Lacks text (codes "BLOCKDATA") → NoHead IsBlock text
no_block lacks = record { not = λ name head. lacks_block lacks head }

other_block : {text name rest : Text} → text ≡ codes "BLOCKDATA" ++ rest → 0 < length rest → is_name rest ≡ false → IsBlock text name → ⊥
other_block {name = name} {rest = rest} e filled wrong (named_block f is) = false_true wrong (ap is_name (same_behind (codes "BLOCKDATA") rest name e f) ∙ is)
other_block {rest = rest} e filled wrong (no_name f g) = omega (arith, filled, ap length (sym e ∙ f))

pub no_block_name : {text rest : Text} → text ≡ codes "BLOCKDATA" ++ rest → 0 < length rest → is_name rest ≡ false → NoHead IsBlock text
no_block_name e filled wrong = record { not = λ name head. other_block e filled wrong head }

pub bare_block_here : {text rest : Text} → text ≡ codes "BLOCKDATA" ++ rest → rest ≡ [] → IsBlock text text
bare_block_here e f = let same = e ∙ ap (λ r. codes "BLOCKDATA" ++ r) f in no_name same same

lacks_function : {text name word : Text} → Lacks text word → IsFunction word text name → ⊥
lacks_function lacks (function_head rest e l) = lacks.not (codes "FUNCTION" ++ rest) e

pub no_function_word : {text word : Text} → Lacks text word → NoHead (IsFunction word) text
no_function_word lacks = record { not = λ name head. lacks_function lacks head }

lacks_function_behind : {text name behind word : Text} → text ≡ word ++ behind → Lacks behind (codes "FUNCTION") → IsFunction word text name → ⊥
lacks_function_behind {behind = behind} {word = word} e lacks (function_head rest f l) = lacks.not rest (same_behind word behind (codes "FUNCTION" ++ rest) e f)

pub no_function_behind : {text behind : Text} (word : Text) → text ≡ word ++ behind → Lacks behind (codes "FUNCTION") → NoHead (IsFunction word) text
no_function_behind word e lacks = record { not = λ name head. lacks_function_behind e lacks head }

other_function : {text name behind rest word : Text} → text ≡ word ++ behind → behind ≡ codes "FUNCTION" ++ rest → NoNamedList rest → IsFunction word text name → ⊥
other_function {name = name} {behind = behind} {rest = rest} {word = word} e f none (function_head other g l) =
    none.not name (subst (λ r. IsNamedList r name) (sym (same_behind (codes "FUNCTION") rest other f (same_behind word behind (codes "FUNCTION" ++ other) e g))) l)

pub function_of : {text behind rest : Text} (word : Text) (r : Option (Bor Text)) → text ≡ word ++ behind → behind ≡ codes "FUNCTION" ++ rest → MatchOption r (NoNamedList rest) (λ name. IsNamedList rest name.now) → MatchOption r (NoHead (IsFunction word) text) (λ name. IsFunction word text name.now)
function_of word None e f h = record { not = λ name head. other_function e f h head }
function_of {rest = rest} word (Some name) e f h = function_head rest (e ∙ ap (λ b. word ++ b) f) h

no_function_any : {text name : Text} → NoHead (IsFunction []) text → NoHead (IsFunction (codes "INTEGER")) text → NoHead (IsFunction (codes "LOGICAL")) text → NoHead (IsFunction (codes "REAL")) text → NoHead (IsFunction (codes "DOUBLEPRECISION")) text →
    NoHead (IsFunction (codes "COMPLEX")) text → (word : Text) → IsTypeWord word → IsFunction word text name → ⊥
no_function_any {text} {name} a b c d e f word (untyped g) head = a.not name (subst (λ w. IsFunction w text name) g head)
no_function_any {text} {name} a b c d e f word (integer g) head = b.not name (subst (λ w. IsFunction w text name) g head)
no_function_any {text} {name} a b c d e f word (logical g) head = c.not name (subst (λ w. IsFunction w text name) g head)
no_function_any {text} {name} a b c d e f word (real g) head = d.not name (subst (λ w. IsFunction w text name) g head)
no_function_any {text} {name} a b c d e f word (double_precision g) head = e.not name (subst (λ w. IsFunction w text name) g head)
no_function_any {text} {name} a b c d e f word (complex g) head = f.not name (subst (λ w. IsFunction w text name) g head)

any_at : {text name : Text} → NoHead (IsFunction []) text → NoHead (IsFunction (codes "INTEGER")) text → NoHead (IsFunction (codes "LOGICAL")) text → NoHead (IsFunction (codes "REAL")) text → NoHead (IsFunction (codes "DOUBLEPRECISION")) text →
    NoHead (IsFunction (codes "COMPLEX")) text → IsAnyFunction text name → ⊥
any_at a b c d e f (any_function word typed head) = no_function_any a b c d e f word typed head

pub function_any : {text : Text} (r : Option (Bor Text)) → NoHead (IsFunction []) text → NoHead (IsFunction (codes "INTEGER")) text → NoHead (IsFunction (codes "LOGICAL")) text → NoHead (IsFunction (codes "REAL")) text → NoHead (IsFunction (codes "DOUBLEPRECISION")) text →
    MatchOption r (NoHead (IsFunction (codes "COMPLEX")) text) (λ name. IsFunction (codes "COMPLEX") text name.now) → MatchOption r (NoHead IsAnyFunction text) (λ name. IsAnyFunction text name.now)
function_any None a b c d e h = record { not = λ name head. any_at a b c d e h head }
function_any (Some name) a b c d e h = any_function (codes "COMPLEX") (complex refl) h

pub function_by : {text name : Text} (word : Text) → IsTypeWord word → IsFunction word text name → IsAnyFunction text name
function_by word typed head = any_function word typed head

-- ---- all heads

pub head_program : {text name : Text} → IsProgram text name → IsHead text name
head_program (program_head e is) = program e is

pub head_subroutine : {text name : Text} → IsSubroutine text name → IsHead text name
head_subroutine (bare e is) = subroutine e is
head_subroutine {name = name} (listed rest e l) = subroutine_list l.list (e ∙ ap (λ r. codes "SUBROUTINE" ++ r) l.cut) l.is l.listed

pub head_block : {text name : Text} → IsBlock text name → IsHead text name
head_block (named_block e is) = block e is
head_block (no_name e f) = bare_block e f

head_function_at : {text name word : Text} → IsTypeWord word → IsFunction word text name → IsHead text name
head_function_at {word = word} typed (function_head rest e l) = function word l.list (e ∙ ap (λ r. word ++ (codes "FUNCTION" ++ r)) l.cut) typed l.is l.listed

head_function : {text name : Text} → IsAnyFunction text name → IsHead text name
head_function (any_function word typed head) = head_function_at typed head

no_head_at : {text name : Text} → NoHead IsProgram text → NoHead IsSubroutine text → NoHead IsBlock text → NoHead IsAnyFunction text → IsHead text name → ⊥
no_head_at {name = name} a b c d (program e is) = a.not name (program_head e is)
no_head_at {name = name} a b c d (subroutine e is) = b.not name (bare e is)
no_head_at {name = name} a b c d (subroutine_list list e is l) = b.not name (listed (name ++ list) e (record { list = list; cut = refl; is = is; listed = l }))
no_head_at {name = name} a b c d (function word list e typed is l) = d.not name (any_function word typed (function_head (name ++ list) e (record { list = list; cut = refl; is = is; listed = l })))
no_head_at {name = name} a b c d (block e is) = c.not name (named_block e is)
no_head_at {name = name} a b c d (bare_block e f) = c.not name (no_name e f)

pub head_of : {text : Text} (r : Option (Bor Text)) → NoHead IsProgram text → NoHead IsSubroutine text → NoHead IsBlock text → MatchOption r (NoHead IsAnyFunction text) (λ name. IsAnyFunction text name.now) → MatchOption r (NoHead IsHead text) (λ name. IsHead text name.now)
head_of None a b c h = record { not = λ name head. no_head_at a b c h head }
head_of (Some name) a b c h = head_function h

-- Which kind a statement is, by the tests of its text.
use Rattle.std.proofs.Common.{◌≡◌, ℕ, ◌<◌, ◌≤◌, Bool, true, false, ◌&&◌, ◌==◌, nat_le, [], ◌∷◌, ◌++◌, length, take, drop, codes, ap, sym, ◌∙◌, subst, refl, arith, ◌⊎◌, inl, inr}
use Rattle.std.specs.List.{list_all}
use Rattle.std.proofs.lemmas.List.{take-append-drop}
use Rattle.std.proofs.lemmas.Bool.Decides.{nat_tests}
use Rattle.f77_tree.specs.Names.{is_letter, is_word, is_name}
use Rattle.f77_expr.specs.Spelling.{Text, is_digit, value_of}
use Rattle.fixed_form.specs.Heads.{Lacks}
use Rattle.fixed_form.proofs.WordRuns.{and_left, false_true}
use Rattle.form_kinds.specs.declared.statement_kinds.StatementKind.{StatementKind}
use Rattle.form_kinds.specs.declared.statement_kinds.StatementKind.TheVariants as kind
use Rattle.form_kinds.specs.Scans.{FirstOutside, NoneOutside}
use Rattle.form_kinds.specs.StatementKinds.{IsIf, NoIf, kind_behind, IsDigitRun, IsOptionalComma, absent, comma, SkipsMark, IsDoHead, NoDoHead, NoDo, IsKindAround, loop, assigned, IsKind, closed_if, open_if, equated, worded}
use Rattle.form_kinds.proofs.Digits.{Ends, SamePiece, piece_same, run_ends}
use Rattle.form_kinds.proofs.Places.{SamePlace, first_same, first_none, tail_same}

pub no_if : {text : Text} → Lacks text (codes "IF(") → NoIf text
no_if lacks = record { not = λ condition behind i. lacks.not i.inside i.cut }

-- ---- the head of a DO

letter_no_digit : (b : ℕ) → is_letter b ≡ true → is_digit b ≡ false
letter_no_digit b h = grind (arith, nat_tests)

letter_no_comma : (b : ℕ) → is_letter b ≡ true → b ≡ 44 → ⊥
letter_no_comma b h e = grind (arith, nat_tests)

pub name_first : (b : ℕ) (name : Text) → is_name (b ∷ name) ≡ true → is_letter b ≡ true
name_first b name h = and_left (is_letter b) (nat_le (length (b ∷ name)) 31) (and_left (is_letter b && nat_le (length (b ∷ name)) 31) (list_all is_word name) h)

name_ends : (name : Text) → is_name name ≡ true → Ends is_digit name
name_ends [] h = tt
name_ends (b ∷ name) h = letter_no_digit b (name_first b name h)

pub name_no_comma : (name more : Text) → is_name name ≡ true → name ≡ 44 ∷ more → ⊥
name_no_comma [] more h e = cc
name_no_comma (b ∷ name) more h e = letter_no_comma b (name_first b name h) (let same : b ≡ 44 = cc in same)

pub mark_ends : (mark name : Text) → IsOptionalComma mark → is_name name ≡ true → Ends is_digit (mark ++ name)
mark_ends mark name (absent e) h = subst (λ m. Ends is_digit (m ++ name)) (sym e) (name_ends name h)
mark_ends mark name (comma e) h = let this : Ends is_digit (44 ∷ name) = refl in subst (λ m. Ends is_digit (m ++ name)) (sym e) this

-- where the digits of a DO end
do_cut : {text rest : Text} {n label : ℕ} {name : Text} → text ≡ codes "DO" ++ rest → IsDigitRun rest n → (d : IsDoHead text label name) → SamePiece (take n rest) (drop n rest) d.digits (d.mark ++ name)
do_cut {text} {rest} {n} {label} {name} e run d =
    let cuts : rest ≡ d.digits ++ (d.mark ++ name) = cc (e, d.cut) in
    piece_same is_digit (take n rest) (drop n rest) d.digits (d.mark ++ name) run.each d.are_digits.digits (run_ends run) (mark_ends d.mark name d.optional d.named) (take-append-drop n rest ∙ cuts)

pub no_do_word : {text : Text} → Lacks text (codes "DO") → NoDoHead text
no_do_word lacks = record { not = λ label name d. lacks.not (d.digits ++ (d.mark ++ name)) d.cut }

pub no_do_digits : {text rest digits : Text} {n : ℕ} → text ≡ codes "DO" ++ rest → IsDigitRun rest n → digits ≡ take n rest → (length digits ≡ 0) ⊎ (5 < length digits) → NoDoHead text
no_do_digits {digits = digits} e run f (inl none) = record { not = λ label name d. let same = do_cut e run d in omega (arith, none, d.are_digits.filled, ap length f, ap length same.piece) }
no_do_digits {digits = digits} e run f (inr many) = record { not = λ label name d. let same = do_cut e run d in omega (arith, many, d.few, ap length f, ap length same.piece) }

filled_empty : (b : ℕ) → b ∷ [] ≡ [] → ⊥
filled_empty b e = omega (arith, ap length e)

pub marked_name : {mark mark' name rest : Text} → IsOptionalComma mark → IsOptionalComma mark' → ((more : Text) → mark ++ name ≡ 44 ∷ more → mark' ≡ 44 ∷ []) → is_name name ≡ true → mark ++ name ≡ mark' ++ rest → name ≡ rest
marked_name {name = name} {rest = rest} (absent e) (absent f) maximal h cut = sym (ap (λ m. m ++ name) e) ∙ (cut ∙ ap (λ m. m ++ rest) f)
marked_name {name = name} {rest = rest} (absent e) (comma f) maximal h cut = absurd (name_no_comma name rest h (sym (ap (λ m. m ++ name) e) ∙ (cut ∙ ap (λ m. m ++ rest) f)))
marked_name {name = name} {rest = rest} (comma e) (absent f) maximal h cut =
    absurd (filled_empty 44 (sym (maximal name (ap (λ m. m ++ name) e)) ∙ f))
marked_name {name = name} {rest = rest} (comma e) (comma f) maximal h cut =
    let both : 44 ∷ name ≡ 44 ∷ rest = sym (ap (λ m. m ++ name) e) ∙ (cut ∙ ap (λ m. m ++ rest) f) in
    tail_same both

do_name : {text rest behind found : Text} {n label : ℕ} {name : Text} → text ≡ codes "DO" ++ rest → IsDigitRun rest n → behind ≡ drop n rest → SkipsMark behind found → IsDoHead text label name → name ≡ found
do_name {behind = behind} {name = name} e run f skips d =
    let same : behind ≡ d.mark ++ name = f ∙ (do_cut e run d).rest in
    marked_name d.optional skips.optional (λ more g. skips.maximal more (same ∙ g)) d.named (sym same ∙ skips.cut)

pub no_do_name : {text rest behind found : Text} {n : ℕ} → text ≡ codes "DO" ++ rest → IsDigitRun rest n → behind ≡ drop n rest → SkipsMark behind found → is_name found ≡ false → NoDoHead text
no_do_name e run f skips wrong = record { not = λ label name d. false_true wrong (ap is_name (sym (do_name e run f skips d)) ∙ d.named) }

pub do_head_at : {text rest digits behind found : Text} {n label : ℕ} → text ≡ codes "DO" ++ rest → IsDigitRun rest n → digits ≡ take n rest → behind ≡ drop n rest → SkipsMark behind found → is_name found ≡ true → 0 < length digits → length digits ≤ 5 → label ≡ value_of digits → IsDoHead text label found
do_head_at {text} {rest} {digits} {behind} {found} {n} e run f g skips named filled few value = record {
  digits = digits;
  mark = skips.mark;
  cut = e ∙ ap (λ r. codes "DO" ++ r) (sym (take-append-drop n rest) ∙ (ap (λ d. d ++ drop n rest) (sym f) ∙ ap (λ b. digits ++ b) (sym g ∙ skips.cut)));
  are_digits = record { filled = filled; digits = ap (list_all is_digit) f ∙ run.each };
  few = few;
  optional = skips.optional;
  named = named;
  value = value;
}

-- ---- all kinds

pub no_do_head : {before behind : Text} → NoDoHead before → NoDo before behind
no_do_head none = record { not = λ label name d. none.not label name d.head }

pub no_do_comma : {before behind : Text} → NoneOutside 44 behind → NoDo before behind
no_do_comma none = record { not = λ label name d. first_none none d.comma }

pub kind_in : {text inside condition behind : Text} {k : StatementKind} → text ≡ codes "IF(" ++ inside → FirstOutside 41 inside condition behind → k ≡ kind_behind behind → IsKind text k
kind_in {inside = inside} {condition = condition} {behind = behind} e first is = closed_if condition behind (record { inside = inside; cut = e; closed = first }) is

pub kind_open : {text inside : Text} → text ≡ codes "IF(" ++ inside → NoneOutside 41 inside → IsKind text kind.LogicalIf
kind_open {inside = inside} e none = open_if inside e none refl

pub emptied : (text : Text) (b : Bool) → b ≡ (length text == 0) → b ≡ true → length text ≡ 0
emptied text b e f = grind (arith, nat_tests)

pub filled : (text : Text) (b : Bool) → b ≡ (length text == 0) → b ≡ false → 0 < length text
filled text b e f = grind (arith, nat_tests)

pub skips_one : {text rest : Text} → text ≡ codes "," ++ rest → SkipsMark text rest
skips_one e = record { mark = codes ","; cut = e; optional = comma refl; maximal = λ more f. refl }

pub skips_none : {text : Text} → Lacks text (codes ",") → SkipsMark text text
skips_none lacks = record { mark = []; cut = refl; optional = absent refl; maximal = λ more f. absurd (lacks.not more f) }

-- ---- a text has one kind

pub if_same : {text p r q s : Text} → IsIf text p r → IsIf text q s → SamePlace p r q s
if_same {text} {p} {r} {q} {s} a b =
    let insides : a.inside ≡ b.inside = cc (a.cut, b.cut) in
    first_same (subst (λ t. FirstOutside 41 t p r) insides a.closed) b.closed

around_same : {before behind : Text} {k l : StatementKind} → IsKindAround before behind k → IsKindAround before behind l → k ≡ l
around_same (loop label name d e) (loop label' name' d' f) = e ∙ sym f
around_same (loop label name d e) (assigned none f) = absurd (none.not label name d)
around_same (assigned none e) (loop label name d f) = absurd (none.not label name d)
around_same (assigned none e) (assigned none' f) = e ∙ sym f

around_moved : {p r q s : Text} {k : StatementKind} → SamePlace p r q s → IsKindAround p r k → IsKindAround q s k
around_moved {p} {r} {q} {s} {k} same a = subst (λ x. IsKindAround x s k) same.before (subst (λ y. IsKindAround p y k) same.behind a)

none_moved : {text inside other : Text} → text ≡ codes "IF(" ++ inside → text ≡ codes "IF(" ++ other → NoneOutside 41 inside → NoneOutside 41 other
none_moved {text} {inside} {other} e f none =
    let insides : inside ≡ other = cc (e, f) in
    subst (NoneOutside 41) insides none

pub kind_same : {text : Text} {k l : StatementKind} → IsKind text k → IsKind text l → k ≡ l
kind_same (closed_if condition behind i e) (closed_if condition' behind' j f) = e ∙ (ap kind_behind (if_same i j).behind ∙ sym f)
kind_same (closed_if condition behind i e) (open_if inside cut none f) = absurd (first_none (none_moved cut i.cut none) i.closed)
kind_same (closed_if condition behind i e) (equated before after lacks first a) = absurd (lacks.not i.inside i.cut)
kind_same (closed_if condition behind i e) (worded lacks none f) = absurd (lacks.not i.inside i.cut)
kind_same (open_if inside cut none e) (closed_if condition behind i f) = absurd (first_none (none_moved cut i.cut none) i.closed)
kind_same (open_if inside cut none e) (open_if inside' cut' none' f) = e ∙ sym f
kind_same (open_if inside cut none e) (equated before after lacks first a) = absurd (lacks.not inside cut)
kind_same (open_if inside cut none e) (worded lacks none' f) = absurd (lacks.not inside cut)
kind_same (equated before after lacks first a) (closed_if condition behind i f) = absurd (lacks.not i.inside i.cut)
kind_same (equated before after lacks first a) (open_if inside cut none f) = absurd (lacks.not inside cut)
kind_same (equated before after lacks first a) (equated before' after' lacks' first' b) = around_same (around_moved (first_same first first') a) b
kind_same (equated before after lacks first a) (worded lacks' none f) = absurd (first_none none first)
kind_same (worded lacks none e) (closed_if condition behind i f) = absurd (lacks.not i.inside i.cut)
kind_same (worded lacks none e) (open_if inside cut none' f) = absurd (lacks.not inside cut)
kind_same (worded lacks none e) (equated before after lacks' first b) = absurd (first_none none first)
kind_same (worded lacks none e) (worded lacks' none' f) = e ∙ sym f

-- The first line of a text.
use Rattle.std.proofs.Common.{◌≡◌, ℕ, zero, suc, ◌+◌, ◌<◌, Bool, true, false, ◌==◌, ◌&&◌, cond, List, [], ◌∷◌, ◌++◌, length, take, drop, get_or, ap, sym, ◌∙◌, subst, refl, arith, drop-cons, ◌≢◌}
use Rattle.std.proofs.lemmas.List.{take_more, take-append-drop, append-nil}
use Rattle.std.proofs.lemmas.Bool.Decides.{nat_tests}
use Rattle.fixed_form.specs.Lines.{in_front, begins_end, lines_of, stripped, NoEnd}

no_end_push : (xs : List ℕ) (b : ℕ) → NoEnd xs → (b == 10) ≡ false → NoEnd (xs ++ b ∷ [])
no_end_push [] b h e = (e, tt)
no_end_push (x ∷ xs) b h e = (h.0, no_end_push xs b h.1 e)

pub no_end_more : (text : List ℕ) (i : ℕ) → i < length text → NoEnd (take i text) → (get_or text i 0 == 10) ≡ false → NoEnd (take (i + 1) text)
no_end_more text i lt h e = subst (λ xs. NoEnd xs) (sym (take_more text i 0 lt)) (no_end_push (take i text) (get_or text i 0) h e)

-- ---- one byte

suc_not_zero : (n : ℕ) → (suc n == 0) ≡ true → ⊥
suc_not_zero n e = grind (arith, nat_tests)

pick : {A : Type 0} (x : Bool) (p q : A) → cond (x && false) p q ≡ q
pick true p q = refl
pick false p q = refl

lines_step : (b : ℕ) (text : List ℕ) → (b == 10) ≡ false → lines_of (b ∷ text) ≡ cond (b == 13 && begins_end text) (lines_of text) (in_front b (lines_of text))
unfolding lines_of
lines_step b text h = ap (λ x. cond x ([] ∷ lines_of text) (cond (b == 13 && begins_end text) (lines_of text) (in_front b (lines_of text)))) h

lines_plain : (b : ℕ) (text : List ℕ) → (b == 10) ≡ false → begins_end text ≡ false → lines_of (b ∷ text) ≡ in_front b (lines_of text)
lines_plain b text h e =
    lines_step b text h ∙ (ap (λ x. cond (b == 13 && x) (lines_of text) (in_front b (lines_of text))) e ∙ pick (b == 13) (lines_of text) (in_front b (lines_of text)))

lines_end : (text : List ℕ) → lines_of (10 ∷ text) ≡ [] ∷ lines_of text
unfolding lines_of
lines_end text = refl

pub lines_none : lines_of [] ≡ []
unfolding lines_of
lines_none = refl

stripped_one : (b : ℕ) → stripped (b ∷ []) ≡ cond (b == 13) [] (b ∷ [])
unfolding stripped
stripped_one b = refl

stripped_more : (b c : ℕ) (bs : List ℕ) → stripped (b ∷ c ∷ bs) ≡ b ∷ stripped (c ∷ bs)
unfolding stripped
stripped_more b c bs = refl

pub stripped_none : stripped [] ≡ []
unfolding stripped
stripped_none = refl

-- ---- the first line

pub lines_last : (b : ℕ) (bs : List ℕ) → NoEnd (b ∷ bs) → lines_of (b ∷ bs) ≡ (b ∷ bs) ∷ []
lines_last b [] h = lines_plain b [] h.0 refl ∙ ap (in_front b) lines_none
lines_last b (c ∷ bs) h = lines_plain b (c ∷ bs) h.0 h.1.0 ∙ ap (in_front b) (lines_last c bs h.1)

one_line : (x : Bool) (b : ℕ) (ls : List (List ℕ)) → cond (x && true) ([] ∷ ls) ((b ∷ []) ∷ ls) ≡ cond x [] (b ∷ []) ∷ ls
one_line true b ls = refl
one_line false b ls = refl

pub lines_front : (bs rest : List ℕ) → NoEnd bs → lines_of (bs ++ 10 ∷ rest) ≡ stripped bs ∷ lines_of rest
lines_front [] rest h = lines_end rest ∙ ap (λ l. l ∷ lines_of rest) (sym stripped_none)
lines_front (b ∷ []) rest h =
    lines_step b (10 ∷ rest) h.0
    ∙ (ap (λ ls. cond (b == 13 && true) ls (in_front b ls)) (lines_end rest)
    ∙ (one_line (b == 13) b (lines_of rest) ∙ ap (λ l. l ∷ lines_of rest) (sym (stripped_one b))))
lines_front (b ∷ c ∷ bs) rest h =
    lines_plain b (c ∷ bs ++ 10 ∷ rest) h.0 h.1.0
    ∙ (ap (in_front b) (lines_front (c ∷ bs) rest h.1) ∙ ap (λ l. l ∷ lines_of rest) (sym (stripped_more b c bs)))

-- ---- a line without its byte 13

cond_front : (x : Bool) (a : ℕ) (p q : List ℕ) → a ∷ cond x p q ≡ cond x (a ∷ p) (a ∷ q)
cond_front true a p q = refl
cond_front false a p q = refl

stripped_at : (front : List ℕ) (b : ℕ) → stripped (front ++ b ∷ []) ≡ cond (b == 13) front (front ++ b ∷ [])
stripped_at [] b = stripped_one b
stripped_at (a ∷ []) b = stripped_more a b [] ∙ (ap (λ l. a ∷ l) (stripped_one b) ∙ cond_front (b == 13) a [] (b ∷ []))
stripped_at (a ∷ c ∷ front) b = stripped_more a c (front ++ b ∷ []) ∙ (ap (λ l. a ∷ l) (stripped_at (c ∷ front) b) ∙ cond_front (b == 13) a (c ∷ front) (c ∷ front ++ b ∷ []))

pub stripped_return : (line front : List ℕ) (b : ℕ) → line ≡ front ++ b ∷ [] → b ≡ 13 → front ≡ stripped line
stripped_return line front b e h =
    let same : stripped (front ++ 13 ∷ []) ≡ front = stripped_at front 13 in
    sym (ap stripped (e ∙ ap (λ b. front ++ b ∷ []) h) ∙ same)

pub stripped_other : (line front : List ℕ) (b : ℕ) → line ≡ front ++ b ∷ [] → (b == 13) ≡ false → line ≡ stripped line
stripped_other line front b e h =
    let same : stripped (front ++ b ∷ []) ≡ front ++ b ∷ [] = stripped_at front b ∙ ap (λ x. cond x front (front ++ b ∷ [])) h in
    e ∙ (sym same ∙ ap stripped (sym e))

-- ---- of a whole text

pub lines_at_last : (text line rest : List ℕ) (n : ℕ) → 0 < length text → NoEnd (take n text) → line ≡ take n text → rest ≡ drop n text → rest ≡ [] → lines_of text ≡ line ∷ lines_of rest
lines_at_last [] line rest n h none e f g = absurd (omega (arith, h))
lines_at_last (b ∷ bs) line rest n h none e f g =
    let whole : line ≡ b ∷ bs = e ∙ (sym (append-nil (take n (b ∷ bs))) ∙ (ap (λ r. take n (b ∷ bs) ++ r) (sym (sym f ∙ g)) ∙ take-append-drop n (b ∷ bs))) in
    let no_end : NoEnd (b ∷ bs) = subst (λ l. NoEnd l) (sym e ∙ whole) none in
    lines_last b bs no_end ∙ (ap (λ l. l ∷ []) (sym whole) ∙ ap (λ ls. line ∷ ls) (sym lines_none ∙ ap lines_of (sym g)))

pub lines_at_end : (text line rest : List ℕ) (n : ℕ) → n < length text → NoEnd (take n text) → get_or text n 0 ≡ 10 → line ≡ stripped (take n text) → rest ≡ drop (suc n) text → lines_of text ≡ line ∷ lines_of rest
lines_at_end text line rest n h none stop e f =
    let whole : text ≡ take n text ++ 10 ∷ drop (suc n) text = sym (take-append-drop n text) ∙ ap (λ r. take n text ++ r) (drop-cons text n 0 h ∙ ap (λ b. b ∷ drop (suc n) text) stop) in
    ap lines_of whole ∙ (lines_front (take n text) (drop (suc n) text) none ∙ (ap (λ l. l ∷ lines_of (drop (suc n) text)) (sym e) ∙ ap (λ r. line ∷ lines_of r) (sym f)))

pub stripped_empty : (line : List ℕ) → length line ≡ 0 → line ≡ stripped line
stripped_empty [] h = sym stripped_none
stripped_empty (b ∷ line) h = absurd (omega (arith, h))

pub lines_empty : (text : List ℕ) {b : Bool} → b ≡ (length text == 0) → b ≡ true → lines_of text ≡ []
lines_empty [] e f = lines_none
lines_empty (a ∷ text) e f = absurd (suc_not_zero (length text) (sym e ∙ f))

pub filled : (text : List ℕ) {b : Bool} → b ≡ (length text == 0) → b ≡ false → 0 < length text
filled [] e f = let no_way : true ≡ false = sym e ∙ f in cc
filled (a ∷ text) e f = omega arith

pub emptied : (text : List ℕ) {b : Bool} → b ≡ (length text == 0) → b ≡ true → text ≡ []
emptied [] e f = refl
emptied (a ∷ text) e f = absurd (suc_not_zero (length text) (sym e ∙ f))

other_test : (b : ℕ) → b ≢ 13 → (b == 13) ≡ false
other_test b h = grind (arith, nat_tests)

pub stripped_kept : (line front : List ℕ) (b : ℕ) → line ≡ front ++ b ∷ [] → b ≢ 13 → line ≡ stripped line
stripped_kept line front b e h = stripped_other line front b e (other_test b h)

drop_nil : (n : ℕ) → drop {A = ℕ} n [] ≡ []
drop_nil zero = refl
drop_nil (suc n) = refl

pub drop_one : (text : List ℕ) (n : ℕ) → drop 1 (drop n text) ≡ drop (suc n) text
drop_one [] n = ap (drop 1) (drop_nil n)
drop_one (b ∷ text) zero = refl
drop_one (b ∷ text) (suc n) = drop_one text n

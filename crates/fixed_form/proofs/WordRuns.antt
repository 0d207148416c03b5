-- Where a word ends in a text.
use Rattle.std.proofs.Common.{◌≡◌, ℕ, zero, suc, ◌+◌, ◌<◌, Bool, true, false, ◌&&◌, nat_le, [], ◌∷◌, ◌++◌, length, take, drop, get_or, ap, sym, ◌∙◌, subst, refl, arith}
use Rattle.std.specs.List.{list_all}
use Rattle.std.proofs.lemmas.List.{take_more}
use Rattle.std.proofs.lemmas.Bool.Decides.{nat_tests}
use Rattle.f77_tree.specs.Names.{is_letter, is_word, is_name}
use Rattle.fixed_form.specs.Lines.{Text}
use Rattle.fixed_form.specs.Words.{Stops, IsRun}

pub and_left : (a b : Bool) → (a && b) ≡ true → a ≡ true
and_left true b h = refl
and_left false b h = h

pub and_right : (a b : Bool) → (a && b) ≡ true → b ≡ true
and_right true b h = h
and_right false b h = absurd cc

pub and_both : (a b : Bool) → a ≡ true → b ≡ true → (a && b) ≡ true
and_both a b h g = ap (λ a. a && b) h ∙ g

pub false_true : {b : Bool} → b ≡ false → b ≡ true → ⊥
false_true e f = let no_way : false ≡ true = sym e ∙ f in cc

-- two pieces at the front of one text
pub record Same (p r q s : Text) : Type 0 where
  pub piece : p ≡ q
  pub rest : r ≡ s

same_cons : {b c : ℕ} {p r q s : Text} → b ≡ c → Same p r q s → Same (b ∷ p) r (c ∷ q) s
same_cons e same = record { piece = cc (e, same.piece); rest = same.rest }

pub word_same : (p r q s : Text) → list_all is_word p ≡ true → list_all is_word q ≡ true → Stops r → Stops s → p ++ r ≡ q ++ s → Same p r q s
word_same [] r [] s hp hq hr hs e = record { piece = refl; rest = e }
word_same [] r (c ∷ q) s hp hq hr hs e = absurd (false_true (subst Stops e hr) (and_left (is_word c) (list_all is_word q) hq))
word_same (b ∷ p) r [] s hp hq hr hs e = absurd (false_true (subst Stops (sym e) hs) (and_left (is_word b) (list_all is_word p) hp))
word_same (b ∷ p) r (c ∷ q) s hp hq hr hs e =
    let first : b ≡ c = cc in
    let rest : p ++ r ≡ q ++ s = cc in
    same_cons first (word_same p r q s (and_right (is_word b) (list_all is_word p) hp) (and_right (is_word c) (list_all is_word q) hq) hr hs rest)

word_push : (xs : Text) (b : ℕ) → list_all is_word xs ≡ true → is_word b ≡ true → list_all is_word (xs ++ b ∷ []) ≡ true
word_push [] b h e = and_both (is_word b) true e refl
word_push (x ∷ xs) b h e = and_both (is_word x) (list_all is_word (xs ++ b ∷ [])) (and_left (is_word x) (list_all is_word xs) h) (word_push xs b (and_right (is_word x) (list_all is_word xs) h) e)

pub word_more : (text : Text) (i : ℕ) → i < length text → list_all is_word (take i text) ≡ true → is_word (get_or text i 0) ≡ true → list_all is_word (take (i + 1) text) ≡ true
word_more text i lt h e = ap (list_all is_word) (take_more text i 0 lt) ∙ word_push (take i text) (get_or text i 0) h e

stops_drop : (text : Text) (n : ℕ) → (n < length text → is_word (get_or text n 0) ≡ false) → Stops (drop n text)
stops_drop [] zero h = tt
stops_drop [] (suc n) h = tt
stops_drop (b ∷ text) zero h = h (omega arith)
stops_drop (b ∷ text) (suc n) h = stops_drop text n (λ lt. h (omega (arith, lt)))

pub run_stops : {text : Text} {n : ℕ} → IsRun text n → Stops (drop n text)
run_stops {text} {n} run = stops_drop text n run.stops

letter_word : (b : ℕ) → is_letter b ≡ true → is_word b ≡ true
letter_word b h = grind (arith, nat_tests)

-- a name is of one word
pub name_word : (name : Text) → is_name name ≡ true → list_all is_word name ≡ true
name_word [] h = refl
name_word (b ∷ name) h =
    let few = is_letter b && nat_le (length (b ∷ name)) 31 in
    and_both (is_word b) (list_all is_word name) (letter_word b (and_left (is_letter b) (nat_le (length (b ∷ name)) 31) (and_left few (list_all is_word name) h))) (and_right few (list_all is_word name) h)

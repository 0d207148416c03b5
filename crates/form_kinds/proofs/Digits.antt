-- Digits at the front of a text, and their value.
use Rattle.std.proofs.Common.{◌≡◌, ℕ, zero, suc, ◌+◌, ◌*◌, ◌<◌, Bool, true, false, [], ◌∷◌, ◌++◌, length, take, drop, get_or, ap, sym, ◌∙◌, subst, refl, arith}
use Rattle.std.specs.List.{list_all}
use Rattle.std.proofs.lemmas.List.{take_more}
use Rattle.std.proofs.lemmas.List.Sums.{fold_more}
use Rattle.std.proofs.lemmas.Bool.Decides.{nat_tests}
use Rattle.f77_expr.specs.Spelling.{Text, is_digit, with_digit, value_of}
use Rattle.fixed_form.proofs.WordRuns.{and_left, and_right, and_both, false_true}
use Rattle.form_kinds.specs.StatementKinds.{IsDigitRun}

-- ---- a class of bytes

all_push : (f : ℕ → Bool) (xs : Text) (b : ℕ) → list_all f xs ≡ true → f b ≡ true → list_all f (xs ++ b ∷ []) ≡ true
all_push f [] b h e = and_both (f b) true e refl
all_push f (x ∷ xs) b h e = and_both (f x) (list_all f (xs ++ b ∷ [])) (and_left (f x) (list_all f xs) h) (all_push f xs b (and_right (f x) (list_all f xs) h) e)

pub all_more : (f : ℕ → Bool) (text : Text) (i : ℕ) → i < length text → list_all f (take i text) ≡ true → f (get_or text i 0) ≡ true → list_all f (take (i + 1) text) ≡ true
all_more f text i lt h e = ap (list_all f) (take_more text i 0 lt) ∙ all_push f (take i text) (get_or text i 0) h e

pub all_at : (f : ℕ → Bool) (text : Text) (i : ℕ) → i < length text → list_all f text ≡ true → f (get_or text i 0) ≡ true
all_at f [] i lt h = absurd (omega (arith, lt))
all_at f (b ∷ text) zero lt h = and_left (f b) (list_all f text) h
all_at f (b ∷ text) (suc i) lt h = all_at f text i (omega (arith, lt)) (and_right (f b) (list_all f text) h)

-- none of the class stands first
abbrev pub Ends : (ℕ → Bool) → Text → Type 0
Ends f [] = Unit {0}
Ends f (b ∷ rest) = f b ≡ false

pub record SamePiece (p r q s : Text) : Type 0 where
  pub piece : p ≡ q
  pub rest : r ≡ s

same_cons : {b c : ℕ} {p r q s : Text} → b ≡ c → SamePiece p r q s → SamePiece (b ∷ p) r (c ∷ q) s
same_cons e same = record { piece = cc (e, same.piece); rest = same.rest }

pub piece_same : (f : ℕ → Bool) (p r q s : Text) → list_all f p ≡ true → list_all f q ≡ true → Ends f r → Ends f s → p ++ r ≡ q ++ s → SamePiece p r q s
piece_same f [] r [] s hp hq hr hs e = record { piece = refl; rest = e }
piece_same f [] r (c ∷ q) s hp hq hr hs e = absurd (false_true (subst (Ends f) e hr) (and_left (f c) (list_all f q) hq))
piece_same f (b ∷ p) r [] s hp hq hr hs e = absurd (false_true (subst (Ends f) (sym e) hs) (and_left (f b) (list_all f p) hp))
piece_same f (b ∷ p) r (c ∷ q) s hp hq hr hs e =
    let first : b ≡ c = cc in
    let rest : p ++ r ≡ q ++ s = cc in
    same_cons first (piece_same f p r q s (and_right (f b) (list_all f p) hp) (and_right (f c) (list_all f q) hq) hr hs rest)

ends_drop : (f : ℕ → Bool) (text : Text) (n : ℕ) → (n < length text → f (get_or text n 0) ≡ false) → Ends f (drop n text)
ends_drop f [] zero h = tt
ends_drop f [] (suc n) h = tt
ends_drop f (b ∷ text) zero h = h (omega arith)
ends_drop f (b ∷ text) (suc n) h = ends_drop f text n (λ lt. h (omega (arith, lt)))

pub run_ends : {text : Text} {n : ℕ} → IsDigitRun text n → Ends is_digit (drop n text)
run_ends {text} {n} run = ends_drop is_digit text n run.stops

-- ---- the value of few digits

pub value_none : 0 ≡ value_of []
unfolding value_of
value_none = refl

pub value_more : (digits : Text) (i : ℕ) → i < length digits → value_of (take (i + 1) digits) ≡ with_digit (value_of (take i digits)) (get_or digits i 0)
unfolding value_of
value_more digits i h = fold_more with_digit 0 digits i 0 h

pub digit_small : (n b m : ℕ) → is_digit b ≡ true → n < m → with_digit n b < 10 * m
digit_small n b m d h = grind (arith, nat_tests)

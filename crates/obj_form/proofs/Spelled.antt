-- Names are texts.
use Rattle.std.proofs.Common.{◌≡◌, ℕ, ◌<◌, ◌&&◌, nat_le, true, List, [], ◌∷◌, length, ◌⊎◌, inl, inr, sym, subst, arith}
use Rattle.std.specs.List.{list_all}
use Rattle.std.specs.Str.{IsAscii, IsUtf8}
use Rattle.std.proofs.lemmas.Bool.{and_parts}
use Rattle.std.proofs.lemmas.Bool.Decides.{nat_tests}
use Rattle.std.proofs.lemmas.Str.{IsUtf8-from_ascii, IsUtf8-nil}
use Rattle.std.proofs.lemmas.Str.Ascii.{IsAscii-cons, IsAscii-nil}
use Rattle.f77_tree.specs.Names.{is_letter, is_word, is_name}

letter_small : (b : ℕ) → is_letter b ≡ true → b < 128
letter_small b h = grind (arith, nat_tests)

word_small : (b : ℕ) → is_word b ≡ true → b < 128
word_small b h = grind (arith, nat_tests)

words_small : (bs : List ℕ) → list_all is_word bs ≡ true → IsAscii bs
words_small [] h = IsAscii-nil
words_small (b ∷ bs) h =
    let parts = and_parts (is_word b) (list_all is_word bs) h in
    IsAscii-cons b bs (word_small b parts.0) (words_small bs parts.1)

pub IsUtf8-name : (name : List ℕ) → is_name name ≡ true → IsUtf8 name
IsUtf8-name [] h = IsUtf8-nil
IsUtf8-name (b ∷ bs) h =
    let whole = and_parts (is_letter b && nat_le (length (b ∷ bs)) 31) (list_all is_word bs) h in
    let front = and_parts (is_letter b) (nat_le (length (b ∷ bs)) 31) whole.0 in
    IsUtf8-from_ascii (b ∷ bs) (IsAscii-cons b bs (letter_small b front.0) (words_small bs whole.1))

pub IsUtf8-block : (name : List ℕ) → (name ≡ []) ⊎ (is_name name ≡ true) → IsUtf8 name
IsUtf8-block name (inl e) = subst IsUtf8 (sym e) IsUtf8-nil
IsUtf8-block name (inr h) = IsUtf8-name name h

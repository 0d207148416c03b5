-- What bytes spell is told by the first of them.
use Rattle.std.proofs.Common.{◌≡◌, ℕ, ◌<◌, ◌≤◌, ◌^◌, true, false, [], ◌∷◌, ◌++◌, length, ap, sym, ◌∙◌, subst, refl, arith, ◌==◌, pos}
use Rattle.std.specs.List.{list_all}
use Rattle.std.proofs.lemmas.Bool.Decides.{nat_tests}
use Rattle.f77_tree.specs.Names.{is_letter, is_word}
use Rattle.f77_expr.specs.declared.token.Token.TheVariants as t
use Rattle.f77_expr.specs.declared.token.Kind.TheVariants as k
use Rattle.f77_expr.specs.Kinds.{dot_kind, sign_kind}
use Rattle.f77_expr.specs.Spelling.{Text, is_digit, value_of, AreDigits, doubled, word, integer, literal, dot_word, power, sign}
use Rattle.f77_expr.specs.Lexing.{Piece, Good, Large, Unclosed, Spelled, good, large, unclosed}
use Rattle.f77_expr.proofs.Classes.{and_left, false_true, digit_letter, letter_no_sign, digit_no_sign}

-- what a piece is whose first byte is b

pub record Word (b : ℕ) (bs : Text) (piece : Piece) : Type 0 where
  pub others : list_all is_word bs ≡ true
  pub is : piece ≡ Good (t.Word (b ∷ bs))

pub data Digits (bytes : Text) (piece : Piece) : Type 0 where
  small : AreDigits bytes → value_of bytes < 2 ^ 63 → piece ≡ Good (t.Int (pos (value_of bytes)) (length bytes)) → Digits bytes piece
  great : AreDigits bytes → 2 ^ 63 ≤ value_of bytes → piece ≡ Large → Digits bytes piece

pub data Quoted (bs : Text) (piece : Piece) : Type 0 where
  closed : (content : Text) → bs ≡ doubled content ++ 39 ∷ [] → piece ≡ Good (t.Text content) → Quoted bs piece
  left : (content : Text) → bs ≡ doubled content → piece ≡ Unclosed → Quoted bs piece

pub record Dotted (bs : Text) (piece : Piece) : Type 0 where
  pub inside : Text
  pub cut : bs ≡ inside ++ 46 ∷ []
  pub known : dot_kind inside ≡ k.Other → ⊥
  pub is : piece ≡ Good (t.Dot inside)

pub data Signed (b : ℕ) (bs : Text) (piece : Piece) : Type 0 where
  one : bs ≡ [] → piece ≡ Good (t.Sign b) → Signed b bs piece
  two : b ≡ 42 → bs ≡ 42 ∷ [] → piece ≡ Good t.Power → Signed b bs piece

-- ---- facts of the first byte

different : (c d : ℕ) → (c == d) ≡ false → c ≡ d → ⊥
different c d h e = grind (arith, nat_tests)

first : {b c : ℕ} {bs more : Text} → b ∷ bs ≡ c ∷ more → c ≡ b
first e = cc

behind : {b c : ℕ} {bs more : Text} → b ∷ bs ≡ c ∷ more → bs ≡ more
behind e = cc

pub first_digit : {b : ℕ} {bs : Text} → AreDigits (b ∷ bs) → is_digit b ≡ true
first_digit {b} {bs} digits = and_left (is_digit b) (list_all is_digit bs) digits.digits

letter_at : {b c : ℕ} → c ≡ b → is_letter c ≡ true → is_letter b ≡ true
letter_at e h = subst (λ b. is_letter b ≡ true) e h

letter_not : {b : ℕ} (c : ℕ) → is_letter b ≡ true → c ≡ b → is_letter c ≡ false → ⊥
letter_not c h e f = false_true f (letter_at (sym e) h)

digit_not : {b : ℕ} (c : ℕ) → is_digit b ≡ true → c ≡ b → is_digit c ≡ false → ⊥
digit_not c h e f = false_true f (subst (λ b. is_digit b ≡ true) (sym e) h)

sign_at : {b c : ℕ} → c ≡ b → (sign_kind c ≡ k.Other → ⊥) → sign_kind b ≡ k.Other → ⊥
sign_at e h other = h (ap sign_kind e ∙ other)

apart : {b : ℕ} (c d : ℕ) → c ≡ b → b ≡ d → (c == d) ≡ false → ⊥
apart c d e f h = different c d h (e ∙ f)

-- ---- the pieces of each class

pub word_piece : {b : ℕ} {bs : Text} {piece : Piece} → is_letter b ≡ true → Spelled (b ∷ bs) piece → Word b bs piece
word_piece {b} {bs} l (good token (word c more e letter each eq) is) =
    record { others = subst (λ m. list_all is_word m ≡ true) (sym (behind e)) each; is = is ∙ ap Good eq }
word_piece {b} l (good token (integer digits few eq) is) = absurd (digit_letter b (first_digit digits) l)
word_piece l (good token (literal content e eq) is) = absurd (letter_not 39 l (first e) refl)
word_piece l (good token (dot_word inside e known eq) is) = absurd (letter_not 46 l (first e) refl)
word_piece l (good token (power e eq) is) = absurd (letter_not 42 l (first e) refl)
word_piece {b} l (good token (sign c e known eq) is) = absurd (sign_at (first e) known (letter_no_sign b l))
word_piece {b} l (large digits much is) = absurd (digit_letter b (first_digit digits) l)
word_piece l (unclosed content e is) = absurd (letter_not 39 l (first e) refl)

pub digit_piece : {b : ℕ} {bs : Text} {piece : Piece} → is_digit b ≡ true → Spelled (b ∷ bs) piece → Digits (b ∷ bs) piece
digit_piece {b} d (good token (word c more e letter each eq) is) = absurd (digit_letter b d (letter_at (first e) letter))
digit_piece d (good token (integer digits few eq) is) = small digits few (is ∙ ap Good eq)
digit_piece d (good token (literal content e eq) is) = absurd (digit_not 39 d (first e) refl)
digit_piece d (good token (dot_word inside e known eq) is) = absurd (digit_not 46 d (first e) refl)
digit_piece d (good token (power e eq) is) = absurd (digit_not 42 d (first e) refl)
digit_piece {b} d (good token (sign c e known eq) is) = absurd (sign_at (first e) known (digit_no_sign b d))
digit_piece d (large digits much is) = great digits much is
digit_piece d (unclosed content e is) = absurd (digit_not 39 d (first e) refl)

pub quote_piece : {b : ℕ} {bs : Text} {piece : Piece} → b ≡ 39 → Spelled (b ∷ bs) piece → Quoted bs piece
quote_piece q (good token (word c more e letter each eq) is) = absurd (letter_not 39 (letter_at (first e) letter) (sym q) refl)
quote_piece q (good token (integer digits few eq) is) = absurd (digit_not 39 (first_digit digits) (sym q) refl)
quote_piece q (good token (literal content e eq) is) = closed content (behind e) (is ∙ ap Good eq)
quote_piece q (good token (dot_word inside e known eq) is) = absurd (apart 46 39 (first e) q refl)
quote_piece q (good token (power e eq) is) = absurd (apart 42 39 (first e) q refl)
quote_piece q (good token (sign c e known eq) is) = absurd (known (ap sign_kind (first e ∙ q)))
quote_piece q (large digits much is) = absurd (digit_not 39 (first_digit digits) (sym q) refl)
quote_piece q (unclosed content e is) = left content (behind e) is

pub dot_piece : {b : ℕ} {bs : Text} {piece : Piece} → b ≡ 46 → Spelled (b ∷ bs) piece → Dotted bs piece
dot_piece q (good token (word c more e letter each eq) is) = absurd (letter_not 46 (letter_at (first e) letter) (sym q) refl)
dot_piece q (good token (integer digits few eq) is) = absurd (digit_not 46 (first_digit digits) (sym q) refl)
dot_piece q (good token (literal content e eq) is) = absurd (apart 39 46 (first e) q refl)
dot_piece q (good token (dot_word inside e known eq) is) = record { inside = inside; cut = behind e; known = known; is = is ∙ ap Good eq }
dot_piece q (good token (power e eq) is) = absurd (apart 42 46 (first e) q refl)
dot_piece q (good token (sign c e known eq) is) = absurd (known (ap sign_kind (first e ∙ q)))
dot_piece q (large digits much is) = absurd (digit_not 46 (first_digit digits) (sym q) refl)
dot_piece q (unclosed content e is) = absurd (apart 39 46 (first e) q refl)

pub sign_piece : {b : ℕ} {bs : Text} {piece : Piece} → (sign_kind b ≡ k.Other → ⊥) → Spelled (b ∷ bs) piece → Signed b bs piece
sign_piece {b} s (good token (word c more e letter each eq) is) = absurd (s (letter_no_sign b (letter_at (first e) letter)))
sign_piece {b} s (good token (integer digits few eq) is) = absurd (s (digit_no_sign b (first_digit digits)))
sign_piece s (good token (literal content e eq) is) = absurd (sign_at (sym (first e)) s refl)
sign_piece s (good token (dot_word inside e known eq) is) = absurd (sign_at (sym (first e)) s refl)
sign_piece s (good token (power e eq) is) = two (sym (first e)) (behind e) (is ∙ ap Good eq)
sign_piece s (good token (sign c e known eq) is) = one (behind e) (is ∙ (ap Good eq ∙ ap (λ c. Good (t.Sign c)) (first e)))
sign_piece {b} s (large digits much is) = absurd (s (digit_no_sign b (first_digit digits)))
sign_piece s (unclosed content e is) = absurd (sign_at (sym (first e)) s refl)

-- no piece begins with a byte of none of these classes
pub no_piece : {b : ℕ} {bs : Text} {piece : Piece} → is_letter b ≡ false → is_digit b ≡ false → (b ≡ 39 → ⊥) → (b ≡ 46 → ⊥) → sign_kind b ≡ k.Other → Spelled (b ∷ bs) piece → ⊥
no_piece l d q o s (good token (word c more e letter each eq) is) = false_true l (letter_at (first e) letter)
no_piece l d q o s (good token (integer digits few eq) is) = false_true d (first_digit digits)
no_piece l d q o s (good token (literal content e eq) is) = q (sym (first e))
no_piece l d q o s (good token (dot_word inside e known eq) is) = o (sym (first e))
no_piece {b} l d q o s (good token (power e eq) is) =
    let no_way : k.Star ≡ k.Other = ap sign_kind (first e) ∙ s in cc
no_piece l d q o s (good token (sign c e known eq) is) = known (ap sign_kind (first e) ∙ s)
no_piece l d q o s (large digits much is) = false_true d (first_digit digits)
no_piece l d q o s (unclosed content e is) = q (sym (first e))

pub no_empty_piece : {piece : Piece} → Spelled [] piece → ⊥
no_empty_piece (good token (word c more e letter each eq) is) = cc
no_empty_piece (good token (integer digits few eq) is) = omega (arith, digits.filled)
no_empty_piece (good token (literal content e eq) is) = cc
no_empty_piece (good token (dot_word inside e known eq) is) = cc
no_empty_piece (good token (power e eq) is) = cc
no_empty_piece (good token (sign c e known eq) is) = cc
no_empty_piece (large digits much is) = omega (arith, digits.filled)
no_empty_piece (unclosed content e is) = cc

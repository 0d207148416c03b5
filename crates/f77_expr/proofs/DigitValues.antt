-- The value of digits grows with each.
use Rattle.std.proofs.Common.{◌≡◌, ℕ, ◌+◌, ◌*◌, ◌-◌, ◌<◌, ◌≤◌, [], ◌∷◌, length, take, drop, get_or, fold, ap, ◌∙◌, refl, arith}
use Rattle.std.proofs.lemmas.List.{take_more, take-append-drop}
use Rattle.std.proofs.lemmas.List.Sums.{fold-append}
use Rattle.f77_expr.specs.Spelling.{Text, with_digit, value_of}

grows : (n : ℕ) (bs : Text) → n ≤ fold with_digit n bs
grows n [] = omega arith
grows n (b ∷ bs) = omega (arith, grows (with_digit n b) bs)

pub value_more : (digits : Text) (i : ℕ) → i < length digits → value_of (take (i + 1) digits) ≡ 10 * value_of (take i digits) + (get_or digits i 0 - 48)
unfolding value_of
value_more digits i h = ap (fold with_digit 0) (take_more digits i 0 h) ∙ fold-append with_digit 0 (take i digits) (get_or digits i 0 ∷ [])

pub value_take : (digits : Text) (i : ℕ) → value_of (take i digits) ≤ value_of digits
unfolding value_of
value_take digits i = omega (arith, ap (fold with_digit 0) (take-append-drop i digits), fold-append with_digit 0 (take i digits) (drop i digits), grows (fold with_digit 0 (take i digits)) (drop i digits))

pub value_none : value_of [] ≡ 0
unfolding value_of
value_none = refl

-- A line that is filled with blanks to column 72.
use Rattle.std.proofs.Common.{◌≡◌, ℕ, zero, suc, ◌<◌, true, ◌&&◌, ◌||◌, ◌==◌, [], ◌∷◌, ◌++◌, length, take, get_or, map, min, replicate, ap, sym, ◌∙◌, refl, arith, length-append, length-take}
use Rattle.std.specs.List.{list_all, range_with_len}
use Rattle.std.proofs.lemmas.List.{ext_get_or, get_or-take, length-replicate}
use Rattle.std.proofs.lemmas.List.FromFn.{get_or-map-range_with_len}
use Rattle.fixed_form.specs.Lines.{Text}
use Rattle.fixed_form.specs.Cards.{columns, is_blank, is_comment}

blanks_at : (m i : ℕ) → get_or (replicate {A = ℕ} m 32) i 32 ≡ 32
blanks_at zero i = refl
blanks_at (suc m) zero = refl
blanks_at (suc m) (suc i) = blanks_at m i

padded_at : (line : Text) (m i : ℕ) → get_or (line ++ replicate m 32) i 32 ≡ get_or line i 32
padded_at [] m i = blanks_at m i
padded_at (b ∷ line) m zero = refl
padded_at (b ∷ line) m (suc i) = padded_at line m i

pub columns_long : (line : Text) → length (columns line) ≡ 72
unfolding columns
columns_long line = omega (arith, length-take 72 (line ++ replicate 72 32), length-append line (replicate 72 32), length-replicate {A = ℕ} 72 32)

column_at : (line : Text) (i : ℕ) → i < 72 → get_or (columns line) i 32 ≡ get_or line i 32
unfolding columns
column_at line i h = get_or-take 72 (line ++ replicate 72 32) i 32 h ∙ padded_at line 72 i

pub columns_by_index : (line : Text) → columns line ≡ map (λ k. get_or line k 32) (range_with_len 0 72)
columns_by_index line =
    let long : length (columns line) ≡ length (map (λ k. get_or line k 32) (range_with_len 0 72)) = columns_long line in
    ext_get_or 32 (columns line) (map (λ k. get_or line k 32) (range_with_len 0 72)) long
    (λ i h. let below : i < 72 = omega (arith, columns_long line, h) in
    column_at line i below ∙ sym (get_or-map-range_with_len (λ k. get_or line k 32) 0 72 i i 32 below (omega arith)))

-- ---- blank columns

blanks_all : (n m : ℕ) → list_all (λ b. b == 32) (take n (replicate m 32)) ≡ true
blanks_all zero m = refl
blanks_all (suc n) zero = refl
blanks_all (suc n) (suc m) = blanks_all n m

padded_all : (n m : ℕ) (line : Text) → list_all (λ b. b == 32) (take n (line ++ replicate m 32)) ≡ list_all (λ b. b == 32) (take n line)
padded_all zero m line = refl
padded_all (suc n) m [] = blanks_all (suc n) m
padded_all (suc n) m (b ∷ line) = ap (λ x. (b == 32) && x) (padded_all n m line)

min_zero : (n : ℕ) → min 0 n ≡ 0
min_zero n = omega arith

min_none : (n : ℕ) → min n 0 ≡ 0
min_none n = omega arith

min_more : (m n : ℕ) → min (suc m) (suc n) ≡ suc (min m n)
min_more m n = omega arith

take_none : (n : ℕ) → take {A = ℕ} n [] ≡ []
take_none zero = refl
take_none (suc n) = refl

take_min : (n : ℕ) (line : Text) → take (min (length line) n) line ≡ take n line
take_min n [] = ap (λ k. take k []) (min_zero n) ∙ sym (take_none n)
take_min zero (b ∷ line) = ap (λ k. take k (b ∷ line)) (min_none (length (b ∷ line)))
take_min (suc n) (b ∷ line) = ap (λ k. take k (b ∷ line)) (min_more (length line) n) ∙ ap (λ xs. b ∷ xs) (take_min n line)

blank_in_place : (line : Text) → is_blank (columns line) ≡ is_blank (take (min (length line) 72) line)
unfolding columns is_blank
blank_in_place line = padded_all 72 72 line ∙ ap (list_all (λ b. b == 32)) (sym (take_min 72 line))

first_in_place : (line : Text) → get_or (columns line) 0 0 ≡ get_or line 0 32
unfolding columns
first_in_place [] = refl
first_in_place (b ∷ line) = refl

pub comment_in_place : (line : Text) → is_comment (columns line) ≡ (get_or line 0 32 == 67 || get_or line 0 32 == 99 || get_or line 0 32 == 42 || is_blank (take (min (length line) 72) line))
unfolding is_comment
comment_in_place line =
    ap (λ b. b == 67 || b == 99 || b == 42 || is_blank (columns line)) (first_in_place line)
    ∙ ap (λ blank. get_or line 0 32 == 67 || get_or line 0 32 == 99 || get_or line 0 32 == 42 || blank) (blank_in_place line)

pub ruleset by_columns = (columns_by_index, columns_long)

-- Two lists side by side, one step on.
use Rattle.std.proofs.Common.{◌≡◌, ℕ, zero, suc, ◌+◌, ◌<◌, ◌≤◌, min, List, [], ◌∷◌, Bool, true, false, ◌||◌, length, drop, get_or, refl, ap, sym, ◌∙◌, arith}
use Rattle.std.proofs.lemmas.List.{drop_more}
use Rattle.std.specs.List.{list_any, zip}

pub pairs_more : {A B : Type 0} (f : A × B → Bool) (xs : List A) (ys : List B) (k : ℕ) (x : A) (y : B) → k < length xs → k < length ys → x ≡ get_or xs k x → y ≡ get_or ys k y
    → list_any f (zip (drop k xs) (drop k ys)) ≡ (f (x, y) || list_any f (zip (drop (k + 1) xs) (drop (k + 1) ys)))
pairs_more f xs ys k x y h l e g =
    ap (λ us. list_any f (zip us (drop k ys))) (drop_more xs k x h ∙ ap (λ z. z ∷ drop (k + 1) xs) (sym e))
    ∙ ap (λ vs. list_any f (zip (x ∷ drop (k + 1) xs) vs)) (drop_more ys k y l ∙ ap (λ z. z ∷ drop (k + 1) ys) (sym g))

nothing_right : {A B : Type 0} (f : A × B → Bool) (xs : List A) → list_any f (zip xs []) ≡ false
nothing_right f [] = refl
nothing_right f (x ∷ xs) = refl

pub pairs_end : {A B : Type 0} (f : A × B → Bool) (xs : List A) (ys : List B) (k : ℕ) → min (length xs) (length ys) ≤ k → list_any f (zip (drop k xs) (drop k ys)) ≡ false
pairs_end f [] ys zero h = refl
pairs_end f [] ys (suc k) h = refl
pairs_end f (x ∷ xs) [] zero h = refl
pairs_end f (x ∷ xs) [] (suc k) h = nothing_right f (drop k xs)
pairs_end f (x ∷ xs) (y ∷ ys) zero h = absurd (omega arith)
pairs_end f (x ∷ xs) (y ∷ ys) (suc k) h = pairs_end f xs ys k (omega arith)

-- Elements by their places.
use Rattle.std.specs.Borrow.{Bor}
use Rattle.std.specs.Slice.{IsItemAt}
use Rattle.std.proofs.Common.{◌≡◌, ℕ, zero, suc, ◌+◌, ◌<◌, ◌≤◌, List, [], ◌∷◌, length, drop, get_or, None, Some, slice_get, refl, sym, ap, ◌∙◌, add-one, drop-cons, arith}
use Rattle.std.proofs.lemmas.Option.{slice_get_read, slice_get_past}

pub item_there : {A : Type 0} → (xs : List A) (i : ℕ) (x : Bor A) → IsItemAt xs i (Some x) → slice_get xs i ≡ Some x.now
item_there xs i x item = slice_get_read xs (length xs) i x.now refl item.3.0 item.1

pub item_not : {A : Type 0} → (xs : List A) (i : ℕ) → IsItemAt xs i None → slice_get xs i ≡ None
item_not xs i item = slice_get_past xs i item.3

-- a list from an element on
pub from_here : {A : Type 0} → (xs : List A) (i : ℕ) (x : A) → i < length xs → x ≡ get_or xs i x → drop i xs ≡ x ∷ drop (i + 1) xs
from_here xs i x lt e = rw add-one (drop-cons xs i x lt ∙ ap (λ y. y ∷ drop (suc i) xs) (sym e))

pub all_gone : {A : Type 0} → (xs : List A) (i : ℕ) → length xs ≤ i → drop i xs ≡ []
all_gone [] zero h = refl
all_gone [] (suc i) h = refl
all_gone (x ∷ xs) zero h = absurd (omega arith)
all_gone (x ∷ xs) (suc i) h = all_gone xs i (omega arith)

-- What holds of each of a list, and of each two of it.
use Rattle.std.proofs.Common.{◌≡◌, ℕ, zero, suc, ◌+◌, ◌<◌, ◌≤◌, Bool, true, false, ◌||◌, Some, List, [], ◌∷◌, ◌++◌, fold, flat_map, slice_get, sum_by, refl, sym, ap, ◌∙◌, subst, arith, ◌⊎◌, inl, inr, if◌then◌else◌}
use Rattle.std.specs.List.{list_any}
use Rattle.std.proofs.lemmas.List.Sums.{sum_by-cons}
use Rattle.f77_values.specs.Tables.{Name, name_eq, is_among, with_name, distinct}

abbrev pub Each : {A : Type 0} → (A → Type 0) → List A → Type 0
Each P [] = Unit {0}
Each P (x ∷ xs) = P x × Each P xs

pub each_both : {A : Type 0} (P : A → Type 0) (xs ys : List A) → Each P xs → Each P ys → Each P (xs ++ ys)
each_both P [] ys h k = k
each_both P (x ∷ xs) ys h k = (h.0, each_both P xs ys h.1 k)

-- of the members of a list, by their places
pub each_flat_at : {A B : Type 0} (P : B → Type 0) (g : A → List B) (xs : List A) → ((i : ℕ) (x : A) → slice_get xs i ≡ Some x → Each P (g x)) → Each P (flat_map g xs)
each_flat_at P g [] h = tt
each_flat_at P g (x ∷ xs) h = each_both P (g x) (flat_map g xs) (h 0 x refl) (each_flat_at P g xs (λ i y e. h (suc i) y e))

pub each_flat : {A B : Type 0} (P : B → Type 0) (g : A → List B) → ((x : A) → Each P (g x)) → (xs : List A) → Each P (flat_map g xs)
each_flat P g h [] = tt
each_flat P g h (x ∷ xs) = each_both P (g x) (flat_map g xs) (h x) (each_flat P g h xs)

some_is : {A : Type 0} (x y : A) → Some x ≡ Some y → x ≡ y
some_is x y e = cc

pub each_at : {A : Type 0} (P : A → Type 0) (xs : List A) (i : ℕ) (x : A) → Each P xs → slice_get xs i ≡ Some x → P x
each_at P [] i x h e = cc
each_at P (y ∷ xs) zero x h e = subst P (some_is y x e) h.0
each_at P (y ∷ xs) (suc i) x h e = each_at P xs i x h.1 e

-- the one in the middle
pub each_middle : {A : Type 0} (P : A → Type 0) (xs : List A) (x : A) (ys : List A) → Each P (xs ++ x ∷ ys) → P x
each_middle P [] x ys h = h.0
each_middle P (y ∷ xs) x ys h = each_middle P xs x ys h.1

-- ---- each two

abbrev pub Pairs : {A : Type 0} → (A → A → Type 0) → List A → Type 0
Pairs R [] = Unit {0}
Pairs R (x ∷ xs) = Each (R x) xs × Pairs R xs

pub pairs_both : {A : Type 0} (R : A → A → Type 0) (xs ys : List A) → Pairs R xs → Pairs R ys → Each (λ x. Each (R x) ys) xs → Pairs R (xs ++ ys)
pairs_both R [] ys h k r = k
pairs_both R (x ∷ xs) ys h k r = (each_both (R x) xs ys h.0 r.0, pairs_both R xs ys h.1 k r.1)

pub pairs_at : {A : Type 0} (R : A → A → Type 0) (xs : List A) (i j : ℕ) (x y : A) → Pairs R xs → i < j → slice_get xs i ≡ Some x → slice_get xs j ≡ Some y → R x y
pairs_at R [] i j x y h lt e k = cc
pairs_at R (z ∷ xs) zero zero x y h lt e k = absurd (omega (arith, lt))
pairs_at R (z ∷ xs) zero (suc j) x y h lt e k = subst (λ z. R z y) (some_is z x e) (each_at (R z) xs j y h.0 k)
pairs_at R (z ∷ xs) (suc i) zero x y h lt e k = absurd (omega (arith, lt))
pairs_at R (z ∷ xs) (suc i) (suc j) x y h lt e k = pairs_at R xs i j x y h.1 (omega (arith, lt)) e k

-- ---- sums

-- Of two places of a list, where what stands there differs, one lies behind the other.
pub one_behind : {A : Type 0} (f : A → ℕ) (xs ys : List A) (x y : A) (us vs : List A) → xs ++ x ∷ us ≡ ys ++ y ∷ vs → (x ≡ y → ⊥) → (sum_by f xs + f x ≤ sum_by f ys) ⊎ (sum_by f ys + f y ≤ sum_by f xs)
one_behind f [] [] x y us vs e differ = absurd (differ cc)
one_behind f [] (z ∷ ys) x y us vs e differ = let same : x ≡ z = cc in inl (subst (λ z. 0 + f x ≤ sum_by f (z ∷ ys)) same (let s = sum_by-cons f x ys in omega (arith, s)))
one_behind f (z ∷ xs) [] x y us vs e differ = let same : z ≡ y = cc in inr (subst (λ z. 0 + f y ≤ sum_by f (z ∷ xs)) (sym same) (let s = sum_by-cons f y xs in omega (arith, s)))
one_behind f (z ∷ xs) (w ∷ ys) x y us vs e differ =
    let same : z ≡ w = cc in
    let rest : xs ++ x ∷ us ≡ ys ++ y ∷ vs = cc in
    let a = sum_by-cons f z xs in
    let b = sum_by-cons f z ys in
    subst (λ w. (sum_by f (z ∷ xs) + f x ≤ sum_by f (w ∷ ys)) ⊎ (sum_by f (w ∷ ys) + f y ≤ sum_by f (z ∷ xs))) same (go a b (one_behind f xs ys x y us vs rest differ))
  where
    go : sum_by f (z ∷ xs) ≡ f z + sum_by f xs → sum_by f (z ∷ ys) ≡ f z + sum_by f ys → (sum_by f xs + f x ≤ sum_by f ys) ⊎ (sum_by f ys + f y ≤ sum_by f xs) → (sum_by f (z ∷ xs) + f x ≤ sum_by f (z ∷ ys)) ⊎ (sum_by f (z ∷ ys) + f y ≤ sum_by f (z ∷ xs))
    go a b (inl h) = inl (omega (arith, a, b, h))
    go a b (inr h) = inr (omega (arith, a, b, h))

-- What stands in a list, with all before it, is no more than the whole.
pub part_of_sum : {A : Type 0} (f : A → ℕ) (xs : List A) (x : A) (us : List A) → sum_by f xs + f x ≤ sum_by f (xs ++ x ∷ us)
part_of_sum f [] x us = let s = sum_by-cons f x us in omega (arith, s)
part_of_sum f (z ∷ xs) x us =
    let a = sum_by-cons f z xs in
    let b = sum_by-cons f z (xs ++ x ∷ us) in
    let h = part_of_sum f xs x us in
    omega (arith, a, b, h)

-- ---- names

pub contra : {A : Type 0} → true ≡ false → A
contra e = cc

pub any-append : {A : Type 0} (test : A → Bool) (xs ys : List A) → list_any test (xs ++ ys) ≡ (list_any test xs || list_any test ys)
any-append test [] ys = refl
any-append test (x ∷ xs) ys = ap (λ b. test x || b) (any-append test xs ys) ∙ sym (or_assoc (test x) (list_any test xs) (list_any test ys))
  where
    or_assoc : (a b c : Bool) → ((a || b) || c) ≡ (a || (b || c))
    or_assoc true b c = refl
    or_assoc false b c = refl

abbrev pub Differs : Name → Name → Type 0
Differs a b = name_eq b a ≡ false

pushed_each : {A : Type 0} (P : A → Type 0) (xs : List A) (y : A) → Each P xs → P y → Each P (xs ++ y ∷ [])
pushed_each P xs y h p = each_both P xs (y ∷ []) h (p, tt)

pushed : (xs : List Name) (y : Name) → is_among xs y ≡ false → Pairs Differs xs → Pairs Differs (xs ++ y ∷ [])
pushed [] y n h = (tt, tt)
pushed (x ∷ xs) y n h = go (name_eq y x) refl n (λ n. pushed xs y n h.1)
  where
    go : (b : Bool) → name_eq y x ≡ b → (b || is_among xs y) ≡ false → (is_among xs y ≡ false → Pairs Differs (xs ++ y ∷ [])) → Pairs Differs (x ∷ (xs ++ y ∷ []))
    go true e n rest = contra n
    go false e n rest = (pushed_each (Differs x) xs y h.0 e, rest n)

with_differs : (known : List Name) (x : Name) → Pairs Differs known → Pairs Differs (with_name known x)
with_differs known x h = go (is_among known x) refl
  where
    go : (b : Bool) → is_among known x ≡ b → Pairs Differs (if b then known else known ++ x ∷ [])
    go true e = h
    go false e = pushed known x e h

fold_differs : (xs known : List Name) → Pairs Differs known → Pairs Differs (fold with_name known xs)
fold_differs [] known h = h
fold_differs (x ∷ xs) known h = fold_differs xs (with_name known x) (with_differs known x h)

-- The names of a list without repetitions differ.
pub distinct_differ : (xs : List Name) → Pairs Differs (distinct xs)
distinct_differ xs = fold_differs xs [] tt

-- Truth values that are false together, what holds of each of a list, and tables by the numbers of sites.
use Rattle.std.proofs.Common.{◌≡◌, ℕ, zero, suc, ◌+◌, ◌<◌, ◌≤◌, Bool, true, false, not, ◌&&◌, ◌||◌, List, [], ◌∷◌, ◌++◌, Some, length, map, flat_map, slice_get, refl, sym, ap, ◌∙◌, arith}
use Rattle.std.specs.List.{list_any}
use Rattle.std.proofs.lemmas.Option.{slice_get_within}
use Rattle.sound_units.specs.Sites.{Each, site_at, Part}

pub or_left : (a b : Bool) → (a || b) ≡ false → a ≡ false
or_left true b h = h
or_left false b h = refl

pub or_right : (a b : Bool) → (a || b) ≡ false → b ≡ false
or_right true b h = absurd (contra h)
  where
    contra : true ≡ false → ⊥
    contra e = cc
or_right false b h = h

pub both_true : (a b : Bool) → (a && b) ≡ true → (a ≡ true) × (b ≡ true)
both_true true b h = (refl, h)
both_true false b h = cc

pub not_false : (b : Bool) → not b ≡ false → b ≡ true
not_false true h = refl
not_false false h = cc

pub or_none : (b : Bool) → (b || false) ≡ b
or_none true = refl
or_none false = refl

pub any-map : {A B : Type 0} (test : B → Bool) (g : A → B) (xs : List A) → list_any test (map g xs) ≡ list_any (λ x. test (g x)) xs
any-map test g [] = refl
any-map test g (x ∷ xs) = ap (λ b. test (g x) || b) (any-map test g xs)

pub or_assoc : (a b c : Bool) → ((a || b) || c) ≡ (a || (b || c))
or_assoc true b c = refl
or_assoc false b c = refl

pub any-append : {A : Type 0} (test : A → Bool) (xs ys : List A) → list_any test (xs ++ ys) ≡ (list_any test xs || list_any test ys)
any-append test [] ys = refl
any-append test (x ∷ xs) ys = ap (λ b. test x || b) (any-append test xs ys) ∙ sym (or_assoc (test x) (list_any test xs) (list_any test ys))

pub flat : {A B : Type 0} (g : A → List B) (xs : List A) → flat_map (λ (all : List B). all) (map g xs) ≡ flat_map g xs
flat g [] = refl
flat g (x ∷ xs) = ap (λ all. g x ++ all) (flat g xs)

pub length-map : {A B : Type 0} (g : A → B) (xs : List A) → length (map g xs) ≡ length xs
length-map g [] = refl
length-map g (x ∷ xs) = ap suc (length-map g xs)

pub long-append : {A : Type 0} (xs ys : List A) → length (xs ++ ys) ≡ length xs + length ys
long-append [] ys = omega arith
long-append (x ∷ xs) ys = omega (arith, long-append xs ys)

pub untrue : (b : Bool) → (b ≡ true → ⊥) → b ≡ false
untrue true h = absurd (h refl)
untrue false h = refl

-- ---- each of a list

pub each_left : {A : Type 0} (P : A → Type 0) (xs ys : List A) → Each P (xs ++ ys) → Each P xs
each_left P [] ys h = tt
each_left P (x ∷ xs) ys h = (h.0, each_left P xs ys h.1)

pub each_right : {A : Type 0} (P : A → Type 0) (xs ys : List A) → Each P (xs ++ ys) → Each P ys
each_right P [] ys h = h
each_right P (x ∷ xs) ys h = each_right P xs ys h.1

pub each_all : {A : Type 0} (P : A → Type 0) → ((x : A) → P x) → (xs : List A) → Each P xs
each_all P h [] = tt
each_all P h (x ∷ xs) = (h x, each_all P h xs)

-- ---- tables by sites

pub at_left : {A : Type 0} (xs ys : List A) (i : ℕ) (x : A) → slice_get xs i ≡ Some x → slice_get (xs ++ ys) i ≡ Some x
at_left [] ys i x h = cc
at_left (z ∷ xs) ys zero x h = h
at_left (z ∷ xs) ys (suc i) x h = at_left xs ys i x h

pub at_right : {A : Type 0} (xs ys : List A) (i : ℕ) → slice_get (xs ++ ys) (length xs + i) ≡ slice_get ys i
at_right [] ys i = ap (slice_get ys) (omega arith)
at_right (z ∷ xs) ys i =
    let e : length (z ∷ xs) + i ≡ suc (length xs + i) = omega arith in
    ap (slice_get (z ∷ xs ++ ys)) e ∙ at_right xs ys i

pub part_left : {A : Type 0} (all : List A) (s : ℕ) (xs ys : List A) → Part all s (xs ++ ys) → Part all s xs
part_left all s xs ys h = λ i x e. h i x (at_left xs ys i x e)

pub part_right : {A : Type 0} (all : List A) (s n : ℕ) (xs ys : List A) → length xs ≡ n → Part all s (xs ++ ys) → Part all (s + n) ys
part_right all s n xs ys l h = λ i x e.
    let same : (s + n) + i ≡ s + (length xs + i) = omega (arith, l) in
    ap (site_at all) same ∙ h (length xs + i) x (at_right xs ys i ∙ e)

pub part_first : {A : Type 0} (all : List A) (s : ℕ) (x : A) (xs : List A) → Part all s (x ∷ xs) → site_at all s ≡ Some x
part_first all s x xs h =
    let same : s ≡ s + 0 = omega arith in
    ap (site_at all) same ∙ h 0 x refl

pub part_rest : {A : Type 0} (all : List A) (s : ℕ) (x : A) (xs : List A) → Part all s (x ∷ xs) → Part all (suc s) xs
part_rest all s x xs h = λ i y e.
    let same : suc s + i ≡ s + suc i = omega arith in
    ap (site_at all) same ∙ h (suc i) y e

pub site_within : {A : Type 0} (all : List A) (s : ℕ) (x : A) → site_at all s ≡ Some x → (0 < s) × (s ≤ length all)
site_within all zero x h = cc
site_within all (suc n) x h = let b : n < length all = slice_get_within all n x h in (omega arith, omega arith)

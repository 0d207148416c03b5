-- Lists that can be cut into parts in one way.
use Rattle.std.proofs.Common.{◌≡◌, List, [], ◌∷◌, ◌++◌, refl, sym, ap, flat_map}
use Rattle.std.specs.List.{All}
use Rattle.std.proofs.lemmas.List.Elements.{All-head, All-tail}

-- the part in front, and what is behind it
pub record SameCut {X A : Type 0} (x y : X) (s t : List A) : Type 0 where
  pub part : x ≡ y
  pub rest : s ≡ t

-- A part isn't empty, and what begins like what stands behind a part tells where the part ends.
module _ {A B : Type 0} (pieces : B → List A) (Good : B → Type 0) (Behind : List A → Type 0)
    (nothing : Behind [])
    (goes_on : (x : B) (s : List A) → Good x → Behind (pieces x ++ s))
    (filled : (x : B) (s : List A) → pieces x ++ s ≡ [] → ⊥)
    (one : (x y : B) (s t : List A) → Good x → Good y → Behind s → Behind t → pieces x ++ s ≡ pieces y ++ t → SameCut x y s t) where
  behind : (xs : List B) → All Good xs → Behind (flat_map pieces xs)
  behind [] h = nothing
  behind (x ∷ xs) h = goes_on x (flat_map pieces xs) (All-head Good x xs h)

  pub one_cut : (xs ys : List B) → All Good xs → All Good ys → flat_map pieces xs ≡ flat_map pieces ys → xs ≡ ys
  one_cut [] [] h k e = refl
  one_cut [] (y ∷ ys) h k e = absurd (filled y (flat_map pieces ys) (sym e))
  one_cut (x ∷ xs) [] h k e = absurd (filled x (flat_map pieces xs) e)
  one_cut (x ∷ xs) (y ∷ ys) h k e =
      let both = one x y (flat_map pieces xs) (flat_map pieces ys) (All-head Good x xs h) (All-head Good y ys k) (behind xs (All-tail Good x xs h)) (behind ys (All-tail Good y ys k)) e in
      let rest = one_cut xs ys (All-tail Good x xs h) (All-tail Good y ys k) both.rest in
      λ i. both.part i ∷ rest i

-- ---- two places in one list

pub data Places {A : Type 0} (xs ys : List A) (x y : A) : Type 0 where
  same : xs ≡ ys → x ≡ y → Places xs ys x y
  earlier : (between : List A) → ys ≡ xs ++ x ∷ between → Places xs ys x y
  later : (between : List A) → xs ≡ ys ++ y ∷ between → Places xs ys x y

places_more : {A : Type 0} {xs ys : List A} {x y a b : A} → a ≡ b → Places xs ys x y → Places (a ∷ xs) (b ∷ ys) x y
places_more e (same p q) = same (λ i. e i ∷ p i) q
places_more e (earlier between p) = earlier between (λ i. sym e i ∷ p i)
places_more e (later between p) = later between (λ i. e i ∷ p i)

pub places : {A : Type 0} (xs ys s t : List A) (x y : A) → xs ++ x ∷ s ≡ ys ++ y ∷ t → Places xs ys x y
places [] [] s t x y e = same refl cc
places [] (b ∷ ys) s t x y e = let first : b ≡ x = cc in earlier ys (ap (λ c. c ∷ ys) first)
places (a ∷ xs) [] s t x y e = let first : a ≡ y = cc in later xs (ap (λ c. c ∷ xs) first)
places (a ∷ xs) (b ∷ ys) s t x y e =
    let first : a ≡ b = cc in
    let more : xs ++ x ∷ s ≡ ys ++ y ∷ t = cc in
    places_more first (places xs ys s t x y more)

-- The elements of a list.
use Rattle.std.proofs.Common.{◌≡◌, ℕ, zero, suc, ◌<◌, ◌⊎◌, inl, inr, Bool, true, false, ◌||◌, List, [], ◌∷◌, length, get_or, refl, ap, sym, ◌∙◌, arith}
use Rattle.std.proofs.lemmas.Bool.{false≢true}
use Rattle.std.specs.List.{Contains, list_any}

module _ {X : Type 0} where
  abbrev pub In : X → List X → Type 0
  In x [] = ⊥
  In x (y ∷ ys) = (y ≡ x) ⊎ In x ys

  in_at : (x : X) (xs : List X) (k : ℕ) → k < length xs → get_or xs k x ≡ x → In x xs
  in_at x [] k l e = absurd (omega arith)
  in_at x (y ∷ ys) zero l e = inl e
  in_at x (y ∷ ys) (suc k) l e = inr (in_at x ys k (omega arith) e)

  pub in_of : (x : X) (xs : List X) → Contains xs x → In x xs
  in_of x xs c = in_at x xs c.0 c.1 c.2

  pub contains_of : (x : X) (xs : List X) → In x xs → Contains xs x
  contains_of x [] h = absurd h
  contains_of x (y ∷ ys) (inl e) = (0, omega arith, e)
  contains_of x (y ∷ ys) (inr h) = let c = contains_of x ys h in let l = c.1 in (suc c.0, omega arith, c.2)

  -- ---- tests

  pub any_of : (test : X → Bool) (x : X) (xs : List X) → In x xs → test x ≡ true → list_any test xs ≡ true
  any_of test x [] h t = absurd h
  any_of test x (y ∷ ys) (inl e) t = ap (λ b. b || list_any test ys) (ap test e ∙ t)
  any_of test x (y ∷ ys) (inr h) t = or_true (test y) (list_any test ys) (any_of test x ys h t)
    where
      or_true : (a b : Bool) → b ≡ true → (a || b) ≡ true
      or_true true b e = refl
      or_true false b e = e

  pub passing : (test : X → Bool) (xs : List X) → list_any test xs ≡ true → (x : X) × In x xs × (test x ≡ true)
  passing test [] h = absurd (false≢true h)
  passing test (y ∷ ys) h = go (test y) refl (passing test ys)
    where
      go : (b : Bool) → test y ≡ b → (list_any test ys ≡ true → (x : X) × In x ys × (test x ≡ true)) → (x : X) × In x (y ∷ ys) × (test x ≡ true)
      go true e others = (y, inl refl, e)
      go false e others = let p = others (sym (ap (λ b. b || list_any test ys) e) ∙ h) in (p.0, inr p.1, p.2)

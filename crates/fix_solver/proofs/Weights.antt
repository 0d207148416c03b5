-- Sums over lists of readers.
use Rattle.std.specs.Prelude.{◌≡◌, ℕ, ◌+◌, ◌<◌, ◌≤◌, List, [], ◌∷◌, ◌++◌, length, sum_by, slice_index_or, refl}
use Rattle.std.proofs.Common.{zero, suc, ap, subst, ◌∙◌, arith, set}
use Rattle.std.proofs.lemmas.List.Sums.{sum_by-cons, sum_by_push}
use Rattle.fix_solver.specs.Readers.{weigh}

same_each : (a b : ℕ) → a ≡ b → (xs : List ℕ) → sum_by (λ _. a) xs ≡ sum_by (λ _. b) xs
same_each a b same xs = ap (λ w. sum_by (λ _. w) xs) same

less_each : (a b : ℕ) → a ≤ b → (xs : List ℕ) → sum_by (λ _. a) xs ≤ sum_by (λ _. b) xs
less_each a b below [] = omega arith
less_each a b below (x ∷ xs) = omega (arith, less_each a b below xs, sum_by-cons (λ _. a) x xs, sum_by-cons (λ _. b) x xs)

falls_each : (a b : ℕ) → a < b → (xs : List ℕ) → sum_by (λ _. a) xs + length xs ≤ sum_by (λ _. b) xs
falls_each a b below [] = omega arith
falls_each a b below (x ∷ xs) = omega (arith, falls_each a b below xs, sum_by-cons (λ _. a) x xs, sum_by-cons (λ _. b) x xs)

module _ {D : Type 0} (items : D → List ℕ) where
  pub weigh_same : (f g : ℕ → ℕ) (k : ℕ) (ds : List D) → ((m : ℕ) → m < k + length ds → f m ≡ g m) → weigh items f k ds ≡ weigh items g k ds
  weigh_same f g k [] same = refl
  weigh_same f g k (d ∷ ds) same = omega (arith, same_each (f k) (g k) (same k (omega arith)) (items d), weigh_same f g (suc k) ds (λ m below. same m (omega arith)))

  pub weigh_less : (f g : ℕ → ℕ) (k : ℕ) (ds : List D) → ((m : ℕ) → f m ≤ g m) → weigh items f k ds ≤ weigh items g k ds
  weigh_less f g k [] less = omega arith
  weigh_less f g k (d ∷ ds) less = omega (arith, less_each (f k) (g k) (less k) (items d), weigh_less f g (suc k) ds less)

  -- where the weight of one list falls, so does the sum, by the length of that list
  pub weigh_falls : (f g : ℕ → ℕ) (k : ℕ) (ds : List D) (i : ℕ) (e : D) → i < length ds → ((m : ℕ) → f m ≤ g m) → f (k + i) < g (k + i) → weigh items f k ds + length (items (slice_index_or ds i e)) ≤ weigh items g k ds
  weigh_falls f g k [] i e below less falls = absurd (omega arith)
  weigh_falls f g k (d ∷ ds) zero e below less falls =
      let here : f k < g k = subst (λ m. f m < g m) (let same : k + 0 ≡ k = omega arith in same) falls in
      omega (arith, falls_each (f k) (g k) here (items d), weigh_less f g (suc k) ds less)
  weigh_falls f g k (d ∷ ds) (suc i) e below less falls =
      let there : f (suc k + i) < g (suc k + i) = subst (λ m. f m < g m) (let same : k + suc i ≡ suc k + i = omega arith in same) falls in
      omega (arith, less_each (f k) (g k) (less k) (items d), weigh_falls f g (suc k) ds i e (omega arith) less there)

  -- one more element in a list
  pub weigh_more : (f : ℕ → ℕ) (k : ℕ) (ds : List D) (i : ℕ) (e : D) (y : ℕ) → i < length ds → items e ≡ items (slice_index_or ds i e) ++ y ∷ [] → weigh items f k (set ds i e) ≡ weigh items f k ds + f (k + i)
  weigh_more f k [] i e y below grew = absurd (omega arith)
  weigh_more f k (d ∷ ds) zero e y below grew =
      let here : f (k + 0) ≡ f k = ap f (omega arith) in
      let more = ap (λ l. sum_by (λ _. f k) l) grew ∙ sum_by_push (λ _. f k) (items d) y in
      omega (arith, here, more)
  weigh_more f k (d ∷ ds) (suc i) e y below grew =
      let there : f (k + suc i) ≡ f (suc k + i) = ap f (omega arith) in
      omega (arith, there, weigh_more f (suc k) ds i e y (omega arith) grew)

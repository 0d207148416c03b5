-- Arguments that are kept in a list as long as is needed.
use Rattle.std.proofs.Common.{◌≡◌, ℕ, zero, suc, ◌+◌, ◌<◌, List, [], ◌∷◌, ◌++◌, Option, None, Some, length, map, replicate, slice_set, refl, ap, arith}
use Rattle.std.specs.Option.{option_map}
use Rattle.run_model.specs.Storage.{Interval}
use Rattle.ir_core.specs.Runs.{with_argument}

module _ {X : Type 0} (f : X → Interval) where
  abbrev pub seen : List (Option X) → List (Option Interval)
  seen xs = map (option_map f) xs

  -- an argument is set behind as many as are wanting
  pub behind_none : (k m : ℕ) (i : Interval) → m ≡ suc k → with_argument k i (seen (replicate m None)) ≡ with_argument k i []
  behind_none k zero i e = absurd (omega arith)
  behind_none zero (suc m) i e = let z : m ≡ 0 = omega arith in ap (λ n. Some i ∷ seen (replicate n None)) z
  behind_none (suc k) (suc m) i e = ap (λ ds. None ∷ ds) (behind_none k m i (omega arith))

  pub behind_some : (xs : List (Option X)) (k m : ℕ) (i : Interval) → length xs + m ≡ suc k → with_argument k i (seen (xs ++ replicate m None)) ≡ with_argument k i (seen xs)
  behind_some [] k m i e = behind_none k m i (omega arith)
  behind_some (x ∷ xs) zero m i e = let n : m ≡ 0 = omega arith in let l : length xs ≡ 0 = omega arith in both xs m n l
    where
      both : (xs : List (Option X)) (m : ℕ) → m ≡ 0 → length xs ≡ 0 → Some i ∷ seen (xs ++ replicate m None) ≡ Some i ∷ seen xs
      both [] zero n l = refl
      both [] (suc m) n l = absurd (omega arith)
      both (x ∷ xs) m n l = absurd (omega arith)
  behind_some (x ∷ xs) (suc k) m i e = ap (λ ds. option_map f x ∷ ds) (behind_some xs k m i (omega arith))

  -- an argument in the place of another
  pub in_place : (xs : List (Option X)) (k : ℕ) (x : X) → k < length xs → seen (slice_set xs k (Some x)) ≡ with_argument k (f x) (seen xs)
  in_place [] k x h = absurd (omega arith)
  in_place (y ∷ xs) zero x h = refl
  in_place (y ∷ xs) (suc k) x h = ap (λ ds. option_map f y ∷ ds) (in_place xs k x (omega arith))

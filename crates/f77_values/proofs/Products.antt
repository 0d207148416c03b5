-- A product of numbers that stand still at the greatest stands still where the product does.
use Rattle.std.proofs.Common.{◌≡◌, ℕ, zero, suc, ◌+◌, ◌*◌, ◌<◌, ◌≤◌, ◌⊎◌, inl, inr, min, Option, Some, None, option_map, length, take, get_or, refl, ap, sym, ◌∙◌, arith}
use Rattle.std.proofs.Math.Nat.{le-mul_of_pos_right, mul_comm, mul-zero}
use Rattle.std.proofs.lemmas.List.Sums.{fold_more}
use Rattle.f77_tree.specs.declared.expr.Expr.{Expr}
use Rattle.f77_tree.specs.declared.unit.Value.{Value}
use Rattle.std.proofs.lemmas.Bool.{cases_lt}
use Rattle.f77_values.specs.Tables.{Told, saturated, most}
use Rattle.f77_values.specs.Sizes.{Bounds, extent, times, elements}

large : (a b m : ℕ) → m ≤ a → 0 < b → min (a * b) m ≡ m
large a b m h p = let l : a ≤ a * b = le-mul_of_pos_right {m = b} a p in omega (arith, l, h)

large_left : (a b m : ℕ) → 0 < m → m ≤ a → min (min a m * min b m) m ≡ min (a * b) m
large_left a zero m p h = ap (λ x. min x m) (ap (λ x. min a m * x) (let e : min 0 m ≡ 0 = omega arith in e) ∙ (mul-zero (min a m) ∙ sym (mul-zero a)))
large_left a (suc b) m p h =
    let f : m ≤ min a m = omega (arith, h) in
    let g : 0 < min (suc b) m = omega (arith, p) in
    let q : 0 < suc b = omega arith in
    large (min a m) (min (suc b) m) m f g ∙ sym (large a (suc b) m h q)

pub product_saturated : (a b m : ℕ) → 0 < m → min (min a m * min b m) m ≡ min (a * b) m
product_saturated a b m p = go (cases_lt a m) (cases_lt b m)
  where
    go : (a < m) ⊎ (m ≤ a) → (b < m) ⊎ (m ≤ b) → min (min a m * min b m) m ≡ min (a * b) m
    go (inr h) _ = large_left a b m p h
    go (inl h) (inr k) = ap (λ x. min x m) (mul_comm (min a m) (min b m)) ∙ (large_left b a m p k ∙ ap (λ x. min x m) (mul_comm b a))
    go (inl h) (inl k) =
        let e : min a m ≡ a = omega (arith, h) in
        let f : min b m ≡ b = omega (arith, k) in
        ap (λ x. min (x * min b m) m) e ∙ ap (λ x. min (a * x) m) f

pub times_saturated : (a b : Option ℕ) → option_map saturated (times (option_map saturated a) (option_map saturated b)) ≡ option_map saturated (times a b)
times_saturated (Some a) (Some b) = ap Some (product_saturated a b most (omega arith))
times_saturated (Some a) None = refl
times_saturated None (Some b) = refl
times_saturated None None = refl

-- one dimension more
pub elements_more : (named : Told Value) (bounds : Bounds) (i : ℕ) (bound : Option Expr × Option Expr) (size found : Option ℕ)
    → i < length bounds → bound ≡ get_or bounds i bound → size ≡ option_map saturated (elements named (take i bounds)) → found ≡ option_map saturated (extent named bound)
    → option_map saturated (times size found) ≡ option_map saturated (elements named (take (i + 1) bounds))
elements_more named bounds i bound size found h e s f =
    ap (λ size. option_map saturated (times size found)) s
    ∙ (ap (λ found. option_map saturated (times (option_map saturated (elements named (take i bounds))) found)) f
    ∙ (times_saturated (elements named (take i bounds)) (extent named bound)
    ∙ ap (option_map saturated) (ap (λ x. times (elements named (take i bounds)) (extent named x)) e
    ∙ sym (fold_more (λ size bound. times size (extent named bound)) (Some 1) bounds i bound h))))

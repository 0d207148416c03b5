-- The registers at the start.
use Rattle.std.proofs.Common.{◌≡◌, ℕ, zero, suc, Bool, true, false, cond, nat_eq, List, get_or, replicate, refl, ap, ◌∙◌}
use Rattle.std.proofs.Math.Path.{fun_ext}
use Rattle.rv_machine.specs.Kept.{reads_of}

-- a place of n zeros, and one past them
pub zero_at : (n x : ℕ) → let z : ℕ = 0 in get_or (replicate n z) x z ≡ z
zero_at zero x = refl
zero_at (suc n) zero = refl
zero_at (suc n) (suc x) = zero_at n x

pub no_registers : (xs : List ℕ) → (let z : ℕ = 0 in xs ≡ replicate 32 z) → reads_of xs ≡ (λ x. 0)
no_registers xs e = fun_ext (λ x. ap (λ (ys : List ℕ). reads_of ys x) e ∙ either (nat_eq x 0) x)
  where
    either : (b : Bool) (x : ℕ) → let z : ℕ = 0 in cond b z (get_or (replicate 32 z) x z) ≡ z
    either true x = refl
    either false x = zero_at 32 x

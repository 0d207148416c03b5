-- Bytes that are written.
use Rattle.std.proofs.Common.{◌≡◌, ℕ, suc, ◌+◌, ◌-◌, ◌/◌, ◌%◌, ◌<◌, cond, nat_eq, List, length, get_or, set, refl, ap, arith, Bool, true, false, eqb-true, get_or-set_same, get_or-set_other}
use Rattle.std.proofs.Math.Path.{fun_ext}
use Rattle.std.proofs.lemmas.Bool.{eqb-false}
use Rattle.rv_machine.specs.Memory.{put_byte, write}

pub put_byte-set : (xs : List ℕ) (i b : ℕ) → i < length xs → (λ y. get_or (set xs i b) y 0) ≡ put_byte i b (λ y. get_or xs y 0)
put_byte-set xs i b h = fun_ext (λ y. go y (nat_eq y i) refl)
  where
    go : (y : ℕ) (t : Bool) → nat_eq y i ≡ t → get_or (set xs i b) y 0 ≡ cond (nat_eq y i) b (get_or xs y 0)
    go y true e = let s : y ≡ i = eqb-true y i e in rw (e, s) (get_or-set_same xs i b 0 h)
    go y false e = rw e (get_or-set_other xs i y b 0 (eqb-false y i e))

pub write_step : (count k at rest : ℕ) (xs : List ℕ) → k < count → at + k < length xs → (x : ℕ) → write (count - (k + 1)) (at + (k + 1)) (rest / 256) (λ y. get_or (set xs (at + k) (rest % 256)) y 0) x ≡ write (count - k) (at + k) rest (λ y. get_or xs y 0) x
write_step count k at rest xs h g x =
    let n : count - k ≡ suc (count - (k + 1)) = omega arith in
    let a : at + (k + 1) ≡ at + k + 1 = omega arith in
    rw (n, a) (ap (λ m. write (count - (k + 1)) (at + k + 1) (rest / 256) m x) (put_byte-set xs (at + k) (rest % 256) g))

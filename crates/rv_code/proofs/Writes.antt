-- Reads after writes.
use Rattle.std.proofs.Common.{◌≡◌, ℕ, zero, suc, ◌+◌, ◌*◌, ◌/◌, ◌%◌, ◌^◌, ◌≤◌, ◌<◌, [], ◌∷◌, cond, refl, ap, ◌∙◌, arith, ◌⊎◌, inl, eq-eqb, ne_eqb}
use Rattle.std.proofs.lemmas.Nat.{mod-pow-add}
use Rattle.rv_machine.specs.Memory.{Memory, put_byte, write}
use Rattle.rv_code.specs.Line.{nil, more, CodeStays, ReadOther, ReadSame}

pub write_other : (n a v x : ℕ) (m : Memory) → (x < a) ⊎ (a + n ≤ x) → write n a v m x ≡ m x
write_other zero a v x m h = refl
write_other (suc n) a v x m h =
    write_other n (a + 1) (v / 256) x (put_byte a (v % 256) m) (grind arith)
    ∙ ap (λ b. cond b (v % 256) (m x)) (ne_eqb x a (grind arith))

pub read_other : ReadOther
read_other zero n a v c m h = refl
read_other (suc k) n a v c m h =
    let e = write_other n a v c m (grind arith) in
    let f = read_other k n a v (c + 1) m (grind arith) in
    λ i. e i + 256 * f i

pub read_same : ReadSame
read_same zero a v m = omega arith
read_same (suc n) a v m =
    let e = write_other n (a + 1) (v / 256) a (put_byte a (v % 256) m) (inl (omega arith)) ∙ ap (λ b. cond b (v % 256) (m a)) (eq-eqb a a refl) in
    let f = read_same n (a + 1) (v / 256) (put_byte a (v % 256) m) in
    let g = mod-pow-add v (8 * n) 8 in
    let p : 8 * suc n ≡ 8 * n + 8 = omega arith in
    let q : v % 2 ^ (8 * suc n) ≡ (v / 2 ^ 8 % 2 ^ (8 * n)) * 2 ^ 8 + v % 2 ^ 8 = rw p g in
    (λ i. e i + 256 * f i) ∙ omega (arith, q)

pub code_stays : CodeStays
code_stays m e a n to v [] h nil = nil
code_stays m e a n to v (i ∷ is) h (more l k g w rest) =
    more l k g (read_other 4 n to v a m (inl (omega arith)) ∙ w) (code_stays m e (a + 4) n to v is h rest)

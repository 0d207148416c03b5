-- Two segments as one memory.
use Rattle.std.proofs.Common.{◌≡◌, ℕ, zero, suc, ◌+◌, ◌-◌, ◌/◌, ◌%◌, ◌<◌, ◌≤◌, cond, nat_eq, List, get_or, refl, sym, ap, ◌∙◌, arith, Bool, true, false, eq-eqb, ne_eqb, eqb-true}
use Rattle.std.specs.Prelude.{nat_lt}
use Rattle.std.proofs.Math.Path.{fun_ext}
use Rattle.std.proofs.lemmas.Bool.{lt-ltb, le-ltb, ltb-true, ltb-false, eqb-false}
use Rattle.rv_machine.specs.Memory.{Memory, put_byte, read, write}
use Rattle.rv_machine.specs.Kept.{whole}

pub whole_low : (code bytes : List ℕ) (at x : ℕ) → x < at → whole code bytes at x ≡ get_or code (x - 65536) 0
whole_low code bytes at x h = rw (lt-ltb x at h) refl

pub whole_high : (code bytes : List ℕ) (at x : ℕ) → at ≤ x → whole code bytes at x ≡ get_or bytes (x - at) 0
whole_high code bytes at x h = rw (le-ltb x at h) refl

pub read_low : (n : ℕ) (code bytes : List ℕ) (at a : ℕ) → 65536 ≤ a → a + n ≤ at → read n (λ y. get_or code y 0) (a - 65536) ≡ read n (whole code bytes at) a
read_low zero code bytes at a l h = refl
read_low (suc n) code bytes at a l h =
    let s : a + 1 - 65536 ≡ a - 65536 + 1 = omega arith in
    let r = read_low n code bytes at (a + 1) (omega arith) (omega arith) in
    let w = whole_low code bytes at a (omega arith) in
    rw (w, ← r, s) refl

pub read_high : (n : ℕ) (code bytes : List ℕ) (at a : ℕ) → at ≤ a → read n (λ y. get_or bytes y 0) (a - at) ≡ read n (whole code bytes at) a
read_high zero code bytes at a h = refl
read_high (suc n) code bytes at a h =
    let s : a + 1 - at ≡ a - at + 1 = omega arith in
    let r = read_high n code bytes at (a + 1) (omega arith) in
    let w = whole_high code bytes at a h in
    rw (w, ← r, s) refl

-- a segment that agrees with a memory from `at` on
pub write_high : (n : ℕ) (at a v : ℕ) (low d : Memory) → at ≤ a → write n a v (λ x. cond (nat_lt x at) (low x) (d (x - at))) ≡ (λ x. cond (nat_lt x at) (low x) (write n (a - at) v d (x - at)))
write_high zero at a v low d h = refl
write_high (suc n) at a v low d h =
    let s : a + 1 - at ≡ a - at + 1 = omega arith in
    ap (write n (a + 1) (v / 256)) (fun_ext (λ x. go x (nat_eq x a) refl (nat_lt x at) refl))
    ∙ write_high n at (a + 1) (v / 256) low (put_byte (a - at) (v % 256) d) (omega arith)
    ∙ ap (λ b. λ x. cond (nat_lt x at) (low x) (write n b (v / 256) (put_byte (a - at) (v % 256) d) (x - at))) s
  where
    go : (x : ℕ) (t : Bool) → nat_eq x a ≡ t → (b : Bool) → nat_lt x at ≡ b → cond (nat_eq x a) (v % 256) (cond (nat_lt x at) (low x) (d (x - at))) ≡ cond (nat_lt x at) (low x) (cond (nat_eq (x - at) (a - at)) (v % 256) (d (x - at)))
    go x true e true f = let p = eqb-true x a e in let q = ltb-true x at f in absurd (omega arith)
    go x true e false f = let p = eqb-true x a e in let q = ltb-false x at f in rw (e, f, eq-eqb (x - at) (a - at) (omega arith)) refl
    go x false e true f = rw (e, f) refl
    go x false e false f = let p = eqb-false x a e in let q = ltb-false x at f in rw (e, f, ne_eqb (x - at) (a - at) (λ s. absurd (p (omega arith)))) refl

pub store_whole : (n at a v : ℕ) (code old new : List ℕ) → at ≤ a → ((x : ℕ) → get_or new x 0 ≡ write n (a - at) v (λ y. get_or old y 0) x) → whole code new at ≡ write n a v (whole code old at)
store_whole n at a v code old new h e =
    ap (λ (d : Memory). λ x. cond (nat_lt x at) (get_or code (x - 65536) 0) (d (x - at))) (fun_ext e)
    ∙ sym (write_high n at a v (λ x. get_or code (x - 65536) 0) (λ y. get_or old y 0) h)

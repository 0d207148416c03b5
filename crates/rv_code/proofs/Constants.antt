-- The words of a constant, and of a pair.
use Rattle.std.proofs.Common.{◌≡◌, ℕ, suc, ◌+◌, ◌-◌, ◌*◌, ◌/◌, ◌%◌, ◌^◌, ◌≤◌, ◌<◌, ℤ, pos, negsuc, List, [], ◌∷◌, ◌++◌, length, Bool, true, false, cond, nat_eq, refl, ap, ◌∙◌, arith, lit≤, eq-eqb, ne_eqb}
use Rattle.std.specs.Prelude.{nat_lt}
use Rattle.std.proofs.Math.Path.{fun_ext}
use Rattle.std.proofs.lemmas.Bool.{ltb-true, ltb-false}
use Rattle.rv_isa.specs.declared.inst.Inst.{Inst}
use Rattle.rv_isa.specs.declared.inst.Inst.TheVariants.{Imm, ImmWord}
use Rattle.rv_isa.specs.declared.inst.ImmOp.TheVariants.{Addi, Slli}
use Rattle.rv_isa.specs.declared.inst.ImmWordOp.TheVariants.{Addiw}
use Rattle.rv_isa.specs.Layout.{signed}
use Rattle.rv_machine.specs.declared.outcome.Outcome.TheVariants.{Running}
use Rattle.rv_machine.specs.Machine.{State, run, output, set_reg, set, next, bits_of, widened, exec, prints}
use Rattle.rv_code.specs.Line.{HasAt, Goes, upper, lower, digit, distance, PairReaches}
use Rattle.rv_code.specs.Pieces.{after, ConstantGoes}
use Rattle.rv_code.proofs.Lines.{step_at, tail, ends}

-- ---- values

-- a signed number of 2 * h values as 64 bits
pub data Bits (h u v : ℕ) : Type 0 where
  low : u < h → v ≡ u → Bits h u v
  high : h ≤ u → v + 2 * h ≡ u + 2 ^ 64 → Bits h u v

pub bits_signed : (h u : ℕ) → u < 2 * h → h ≤ 2 ^ 32 → Bits h u (bits_of (signed h u))
bits_signed h u r k = go (nat_lt u h) refl
  where
    go : (b : Bool) → nat_lt u h ≡ b → Bits h u (bits_of (cond b (pos u) (negsuc (2 * h - suc u))))
    go true e = low (ltb-true u h e) refl
    go false e = let g : h ≤ u = ltb-false u h e in high g (omega arith)

widened_low : (y : ℕ) → widened y % 2 ^ 32 ≡ y % 2 ^ 32
widened_low y = go (nat_lt (y % 2 ^ 32) (2 ^ 31)) refl
  where
    go : (b : Bool) → nat_lt (y % 2 ^ 32) (2 ^ 31) ≡ b → widened y % 2 ^ 32 ≡ y % 2 ^ 32
    go true e = rw e (omega arith)
    go false e = let g = ltb-false (y % 2 ^ 32) (2 ^ 31) e in rw e (omega arith)

-- LUI and ADDIW give the lower 32 bits h
first : ℕ → ℕ
first h = widened (bits_of (upper h) * 4096 % 2 ^ 64 + bits_of (lower h))

first_low : (h : ℕ) → h < 2 ^ 32 → first h % 2 ^ 32 ≡ h
unfolding first
first_low h r =
    widened_low (bits_of (upper h) * 4096 % 2 ^ 64 + bits_of (lower h))
    ∙ go (bits_of (upper h)) (bits_of (lower h)) (bits_signed (2 ^ 19) ((h + 2048) / 4096 % 2 ^ 20) (omega arith) (lit≤ tt)) (bits_signed 2048 (h % 4096) (omega arith) (lit≤ tt))
  where
    go : (a b : ℕ) → Bits (2 ^ 19) ((h + 2048) / 4096 % 2 ^ 20) a → Bits 2048 (h % 4096) b → (a * 4096 % 2 ^ 64 + b) % 2 ^ 32 ≡ h
    go a b (low p0 p) (low q0 q) = omega arith
    go a b (low p0 p) (high q0 q) = omega arith
    go a b (high p0 p) (low q0 q) = omega arith
    go a b (high p0 p) (high q0 q) = omega arith

shift_1 : (x c : ℕ) → c < 2 ^ 64 → x % 2 ^ 32 ≡ c / 2 ^ 32 → (x * 2 ^ 11 % 2 ^ 64 + c / 2 ^ 21 % 2 ^ 11) % 2 ^ 64 % 2 ^ 43 ≡ c / 2 ^ 21
shift_1 x c h e = omega arith

shift_2 : (x c : ℕ) → c < 2 ^ 64 → x % 2 ^ 43 ≡ c / 2 ^ 21 → (x * 2 ^ 11 % 2 ^ 64 + c / 2 ^ 10 % 2 ^ 11) % 2 ^ 64 % 2 ^ 54 ≡ c / 2 ^ 10
shift_2 x c h e = omega arith

shift_3 : (x c : ℕ) → c < 2 ^ 64 → x % 2 ^ 54 ≡ c / 2 ^ 10 → (x * 2 ^ 10 % 2 ^ 64 + c % 2 ^ 10) % 2 ^ 64 ≡ c
shift_3 x c h e = omega arith

-- an instruction that makes w of the v in register d
pub record Makes (d v w : ℕ) (i : Inst) : Type 0 where
  pub stands : (s : State) → s.regs d ≡ v → exec i s ≡ next (set d w s)
  pub quiet : (s : State) → prints i s ≡ []

-- instructions that make w of v, one after another
pub data Chain (d : ℕ) : ℕ → List Inst → ℕ → Type 0 where
  done : {v : ℕ} → Chain d v [] v
  link : {v w x : ℕ} {i : Inst} {is : List Inst} → Makes d v w i → Chain d w is x → Chain d v (i ∷ is) x

pub set_twice : (d v w : ℕ) (r : ℕ → ℕ) → set_reg d w (set_reg d v r) ≡ set_reg d w r
set_twice d v w r = fun_ext (λ x. go x (nat_eq x 0) (nat_eq x d))
  where
    go : (x : ℕ) (a b : Bool) → cond a 0 (cond b w (cond a 0 (cond b v (r x)))) ≡ cond a 0 (cond b w (r x))
    go x true b = refl
    go x false true = refl
    go x false false = refl

after_next : (d v w n : ℕ) (s : State) → s.pc + 4 * suc n < 2 ^ 64 → next (set d w (after d v n s)) ≡ after d w (suc n) s
after_next d v w n s h =
    let p : (s.pc + 4 * n + 4) % 2 ^ 64 ≡ s.pc + 4 * suc n = omega arith in
    λ i. record s { pc = p i; regs = set_twice d v w s.regs i }

held : (d v n : ℕ) (s : State) → 0 < d → (after d v n s).regs d ≡ v
held d v n s h = rw (ne_eqb d 0 (λ e. absurd (omega arith)), eq-eqb d d refl) refl

run_chain : (d v w : ℕ) (is : List Inst) (a n : ℕ) (s : State) → 0 < d → s.outcome ≡ Running → s.pc + 4 * n ≡ a → Chain d v is w → HasAt s.mem s.code_end a is → s.code_end < 2 ^ 63 → Goes (length is) (after d v n s) (after d w (n + length is) s) []
run_chain d v w [] a n s h r p done c k = let e : n ≡ n + 0 = omega arith in record { stands = ap (λ n. after d v n s) e; prints = refl }
run_chain d v w (i ∷ is) a n s h r p (link {w = x} m rest) c k =
    let t = after d v n s in
    let d0 = step_at t a i is p r c in
    let f : a + 4 ≤ s.code_end = ends s.mem s.code_end a i is c in
    let e = d0.stands ∙ m.stands t (held d v n s h) ∙ after_next d v x n s (omega arith) in
    let q = d0.prints ∙ m.quiet t in
    let ih = run_chain d x w is (a + 4) (suc n) s h r (omega arith) rest (tail s.mem s.code_end a i is c) k in
    let l : suc n + length is ≡ n + suc (length is) = omega arith in
    record {
      stands = ap (run (length is)) e ∙ ih.stands ∙ ap (λ n. after d w n s) l;
      prints = (λ j. q j ++ output (length is) (e j)) ∙ ih.prints;
    }

slli : (d v k : ℕ) → Makes d v (v * 2 ^ k % 2 ^ 64) (Imm Slli d d (pos k))
slli d v k = record { stands = λ s e. ap (λ x. next (set d (x * 2 ^ k % 2 ^ 64) s)) e; quiet = λ s. refl }

addi : (d v k : ℕ) → Makes d v ((v + k) % 2 ^ 64) (Imm Addi d d (pos k))
addi d v k = record { stands = λ s e. ap (λ x. next (set d ((x + k) % 2 ^ 64) s)) e; quiet = λ s. refl }

addiw : (d v : ℕ) (z : ℤ) → Makes d v (widened (v + bits_of z)) (ImmWord Addiw d d z)
addiw d v z = record { stands = λ s e. ap (λ x. next (set d (widened (x + bits_of z)) s)) e; quiet = λ s. refl }

-- the last value of the words of a constant
constant_chain : (d c : ℕ) → c < 2 ^ 64 → (w : ℕ) × (w ≡ c) × Chain d (bits_of (upper (c / 2 ^ 32)) * 4096 % 2 ^ 64) (ImmWord Addiw d d (lower (c / 2 ^ 32)) ∷ Imm Slli d d (pos 11) ∷ Imm Addi d d (digit 11 (c / 2 ^ 21)) ∷ Imm Slli d d (pos 11) ∷ Imm Addi d d (digit 11 (c / 2 ^ 10)) ∷ Imm Slli d d (pos 10) ∷ Imm Addi d d (digit 10 c) ∷ []) w
unfolding first
constant_chain d c h =
    let h0 = c / 2 ^ 32 in
    let x2 = first h0 in
    let x4 = (x2 * 2 ^ 11 % 2 ^ 64 + c / 2 ^ 21 % 2 ^ 11) % 2 ^ 64 in
    let x6 = (x4 * 2 ^ 11 % 2 ^ 64 + c / 2 ^ 10 % 2 ^ 11) % 2 ^ 64 in
    let x8 = (x6 * 2 ^ 10 % 2 ^ 64 + c % 2 ^ 10) % 2 ^ 64 in
    let e2 : x2 % 2 ^ 32 ≡ h0 = first_low h0 (omega arith) in
    let e4 = shift_1 x2 c h e2 in
    let e6 = shift_2 x4 c h e4 in
    let e8 = shift_3 x6 c h e6 in
    (x8, e8, link (addiw d _ _) (link (slli d _ _) (link (addi d _ _) (link (slli d _ _) (link (addi d _ _) (link (slli d _ _) (link (addi d _ _) done)))))))

pub constant_goes : ConstantGoes
constant_goes s d c h d32 c64 at =
    let ch = constant_chain d c c64 in
    let apart = at.apart in
    let within = at.within in
    let below = at.below in
    let d0 = step_at s s.pc _ _ refl at.runs at.here in
    let f : s.pc + 4 ≤ s.code_end = ends s.mem s.code_end s.pc _ _ at.here in
    let p : (s.pc + 4) % 2 ^ 64 ≡ s.pc + 4 = omega arith in
    let first = bits_of (upper (c / 2 ^ 32)) * 4096 % 2 ^ 64 in
    let e = d0.stands ∙ ap (λ q. record s { pc = q; regs = set_reg d first s.regs }) p in
    let rs = run_chain d _ ch.0 _ (s.pc + 4) 1 s h at.runs refl ch.2 (tail s.mem s.code_end s.pc _ _ at.here) (omega arith) in
    record {
      stands = ap (run 7) e ∙ rs.stands ∙ ap (λ v. after d v 8 s) ch.1;
      prints = (λ j. d0.prints j ++ output 7 (e j)) ∙ rs.prints;
    }

-- ---- pairs

-- AUIPC and ADDI reach a near target
pub pair_value : PairReaches
pair_value p to hp ht near = go (distance p to) refl (bits_of (upper (distance p to))) (bits_of (lower (distance p to)))
    (bits_signed (2 ^ 19) ((distance p to + 2048) / 4096 % 2 ^ 20) (omega arith) (lit≤ tt)) (bits_signed 2048 (distance p to % 4096) (omega arith) (lit≤ tt))
  where
    go : (D : ℕ) → distance p to ≡ D → (a b : ℕ) → Bits (2 ^ 19) ((distance p to + 2048) / 4096 % 2 ^ 20) a → Bits 2048 (distance p to % 4096) b → ((p + a * 4096 % 2 ^ 64) % 2 ^ 64 + b) % 2 ^ 64 ≡ to
    go D e a b (low p0 q0) (low p1 q1) = omega arith
    go D e a b (low p0 q0) (high p1 q1) = omega arith
    go D e a b (high p0 q0) (low p1 q1) = omega arith
    go D e a b (high p0 q0) (high p1 q1) = omega arith

-- What the pieces do.
use Rattle.std.proofs.Common.{◌≡◌, ◌≢◌, ℕ, ◌+◌, ◌*◌, ◌/◌, ◌%◌, ◌^◌, ◌≤◌, ◌<◌, pos, List, [], ◌∷◌, true, refl, ap, ◌∙◌, arith, lit<, eq-eqb, ne_eqb}
use Rattle.std.proofs.lemmas.Bool.Decides.{nat_tests}
use Rattle.rv_isa.specs.declared.inst.Inst.{Inst}
use Rattle.rv_isa.specs.declared.inst.Inst.TheVariants.{Auipc, Imm, Load, Store, Ecall}
use Rattle.rv_isa.specs.declared.inst.ImmOp.TheVariants.{Addi}
use Rattle.rv_isa.specs.declared.inst.LoadOp.TheVariants.{Ld}
use Rattle.rv_isa.specs.declared.inst.StoreOp.TheVariants.{Sd}
use Rattle.rv_machine.specs.declared.outcome.Outcome.TheVariants.{Halted}
use Rattle.rv_machine.specs.Memory.{read, write}
use Rattle.rv_machine.specs.Machine.{State, set, set_reg, set_or_trap, next, linked, loaded, kept, stored, is_readable, is_writable, bits_of, exec, prints}
use Rattle.rv_code.specs.Line.{Goes, constant, upper, lower, distance, IsNear}
use Rattle.rv_code.specs.Pieces.{Ready, after, save_code, call_code, show_code, OperationGoes, LoadGoes, SaveGoes, StoreGoes, ShowGoes, PrintGoes, ByteGoes, LineGoes, HaltGoes, JumpGoes}
use Rattle.rv_code.proofs.Lines.{step_at, tail, ends, goes_then, goes_one, goes_to, ready_first, ready_rest}
use Rattle.rv_code.proofs.Constants.{set_twice, constant_goes, pair_value}

-- ---- one word

pub operation_goes : OperationGoes
operation_goes s op d a b v e at =
    let below = at.below in
    let apart = at.apart in
    let within = at.within in
    let f = ends s.mem s.code_end s.pc _ _ at.here in
    let p : (s.pc + 4) % 2 ^ 64 ≡ s.pc + 4 = omega arith in
    goes_to (goes_one (step_at s s.pc _ _ refl at.runs at.here)) (ap (λ o. set_or_trap d o s) e ∙ ap (λ q. record s { pc = q; regs = set_reg d v s.regs }) p)

-- ---- a pair of words that makes an address

-- the state after AUIPC and ADDI at p
pub address_goes : (s : State) (d to : ℕ) (rest : List Inst) → 0 < d → to < 2 ^ 63 → IsNear (distance s.pc to) → Ready s (Auipc d (upper (distance s.pc to)) ∷ Imm Addi d d (lower (distance s.pc to)) ∷ rest)
    → Goes 2 s (after d to 2 s) []
address_goes s d to rest h t near at =
    let D = distance s.pc to in
    let below = at.below in
    let apart = at.apart in
    let within = at.within in
    let h1 = tail s.mem s.code_end s.pc _ _ at.here in
    let f : s.pc + 4 + 4 ≤ s.code_end = ends s.mem s.code_end (s.pc + 4) _ _ h1 in
    let p0 : (s.pc + 4) % 2 ^ 64 ≡ s.pc + 4 = omega arith in
    let p1 : ((s.pc + 4) % 2 ^ 64 + 4) % 2 ^ 64 ≡ s.pc + 8 = omega arith in
    let A = (s.pc + bits_of (upper D) * 4096 % 2 ^ 64) % 2 ^ 64 in
    let t1 = exec (Auipc d (upper D)) s in
    let d0 = step_at s s.pc _ _ refl at.runs at.here in
    let d1 = step_at t1 (s.pc + 4) _ _ p0 at.runs h1 in
    let r : t1.regs d ≡ A = rw (ne_eqb d 0 (λ e. absurd (omega arith)), eq-eqb d d refl) refl in
    let e : (t1.regs d + bits_of (lower D)) % 2 ^ 64 ≡ to = ap (λ x. (x + bits_of (lower D)) % 2 ^ 64) r ∙ pair_value s.pc to (omega arith) t near in
    goes_to (goes_then (goes_one d0) (goes_one d1)) ((λ i. record s { pc = p1 i; regs = set_reg d (e i) (set_reg d A s.regs) }) ∙ ap (λ x. record s { pc = s.pc + 8; regs = x }) (set_twice d A to s.regs))

pub kept_in : (t : State) (x to v : ℕ) → x ≡ to → to % 8 ≡ 0 → t.data_at ≤ to → to + 8 ≤ t.data_end → kept 8 x v t ≡ next (stored 8 to v t)
kept_in t x to v e al l h =
    let w : is_writable 8 to t ≡ true = grind (arith, nat_tests) in
    ap (λ x. kept 8 x v t) e ∙ rw (w, eq-eqb (to % 8) 0 al) refl

pub loaded_in : (t : State) (d x to : ℕ) → x ≡ to → to % 8 ≡ 0 → t.data_at ≤ to → to + 8 ≤ t.data_end → loaded 8 d x t ≡ next (set d (read 8 t.mem to) t)
loaded_in t d x to e al l h =
    let w : is_readable 8 to t ≡ true = grind (arith, nat_tests) in
    ap (λ x. loaded 8 d x t) e ∙ rw (w, eq-eqb (to % 8) 0 al) refl

-- the register that was set, and another
pub reg_same : (d v : ℕ) (r : ℕ → ℕ) → 0 < d → set_reg d v r d ≡ v
reg_same d v r h = rw (ne_eqb d 0 (λ e. absurd (omega arith)), eq-eqb d d refl) refl

pub reg_other : (d v b : ℕ) (r : ℕ → ℕ) → 0 < b → b ≢ d → set_reg d v r b ≡ r b
reg_other d v b r h n = rw (ne_eqb b 0 (λ e. absurd (omega arith)), ne_eqb b d n) refl

-- ---- units of the data

pub load_goes : LoadGoes
load_goes s to d h u at =
    let D = distance s.pc to in
    let upto = u.upto in
    let within = at.within in
    let below = at.below in
    let apart = at.apart in
    let h1 = tail s.mem s.code_end s.pc _ _ at.here in
    let h2 = tail s.mem s.code_end (s.pc + 4) _ _ h1 in
    let f : s.pc + 4 + 4 + 4 ≤ s.code_end = ends s.mem s.code_end (s.pc + 4 + 4) _ _ h2 in
    let t2 = after d to 2 s in
    let g = address_goes s d to (Load Ld d d (pos 0) ∷ []) h (omega arith) u.near at in
    let p2 : s.pc + 8 ≡ s.pc + 4 + 4 = omega arith in
    let d2 = step_at t2 (s.pc + 4 + 4) _ _ p2 at.runs h2 in
    let r : t2.regs d ≡ to = reg_same d to s.regs h in
    let e : (t2.regs d + 0) % 2 ^ 64 ≡ to = ap (λ x. (x + 0) % 2 ^ 64) r ∙ omega arith in
    let p3 : (s.pc + 8 + 4) % 2 ^ 64 ≡ s.pc + 12 = omega arith in
    goes_to (goes_then g (goes_one d2))
    (loaded_in t2 d ((t2.regs d + 0) % 2 ^ 64) to e u.aligned u.from upto
    ∙ (λ i. record s { pc = p3 i; regs = set_twice d to (read 8 s.mem to) s.regs i }))

pub save_goes : SaveGoes
save_goes s to b h n u at =
    let upto = u.upto in
    let within = at.within in
    let below = at.below in
    let apart = at.apart in
    let h1 = tail s.mem s.code_end s.pc _ _ at.here in
    let h2 = tail s.mem s.code_end (s.pc + 4) _ _ h1 in
    let f : s.pc + 4 + 4 + 4 ≤ s.code_end = ends s.mem s.code_end (s.pc + 4 + 4) _ _ h2 in
    let t2 = after 6 to 2 s in
    let g = address_goes s 6 to (Store Sd 6 b (pos 0) ∷ []) (lit< tt) (omega arith) u.near at in
    let p2 : s.pc + 8 ≡ s.pc + 4 + 4 = omega arith in
    let d2 = step_at t2 (s.pc + 4 + 4) _ _ p2 at.runs h2 in
    let e : (to + 0) % 2 ^ 64 ≡ to = omega arith in
    let v : t2.regs b ≡ s.regs b = reg_other 6 to b s.regs h n in
    let p3 : (s.pc + 8 + 4) % 2 ^ 64 ≡ s.pc + 12 = omega arith in
    goes_to (goes_then g (goes_one d2))
    (kept_in t2 ((to + 0) % 2 ^ 64) to (t2.regs b) e u.aligned u.from upto
    ∙ (λ i. record s { pc = p3 i; regs = set_reg 6 to s.regs; mem = write 8 to (v i) s.mem }))

pub store_goes : StoreGoes
store_goes s to c hc u at =
    let a0 = ready_first s (constant 5 c) (save_code (s.pc + 32) to 5) at in
    let g = constant_goes s 5 c (lit< tt) (lit< tt) hc a0 in
    let t = after 5 c 8 s in
    let a1 = ready_rest s (constant 5 c) (save_code (s.pc + 32) to 5) (set_reg 5 c s.regs) at in
    let k = save_goes t to 5 (lit< tt) (λ e. absurd (omega arith)) record { from = u.from; upto = u.upto; aligned = u.aligned; near = u.near } a1 in
    let p : s.pc + 32 + 12 ≡ s.pc + 44 = omega arith in
    goes_to (goes_then g k) (λ i. record s { pc = p i; regs = set_reg 6 to (set_reg 5 c s.regs); mem = write 8 to c s.mem })

-- ---- environment calls

-- the number of a call into register 17, and the call
pub call_goes : (s : State) (k : ℕ) → k < 2 ^ 63 → s.regs 0 ≡ 0 → Ready s (call_code k) → Goes 2 s (exec Ecall (after 17 k 1 s)) (prints Ecall (after 17 k 1 s))
call_goes s k kb z at =
    let within = at.within in
    let below = at.below in
    let apart = at.apart in
    let h1 = tail s.mem s.code_end s.pc _ _ at.here in
    let f : s.pc + 4 + 4 ≤ s.code_end = ends s.mem s.code_end (s.pc + 4) _ _ h1 in
    let p : (s.pc + 4) % 2 ^ 64 ≡ s.pc + 4 = omega arith in
    let v : (s.regs 0 + k) % 2 ^ 64 ≡ k = ap (λ x. (x + k) % 2 ^ 64) z ∙ omega arith in
    let t1 = after 17 k 1 s in
    let d0 = goes_to (goes_one (step_at s s.pc _ _ refl at.runs at.here)) (λ i. record s { pc = p i; regs = set_reg 17 (v i) s.regs }) in
    goes_then d0 (goes_one (step_at t1 (s.pc + 4) _ _ refl at.runs h1))

-- where the second word of such a piece ends
call_ends : (s : State) (k : ℕ) → Ready s (call_code k) → (s.pc + 4 + 4) % 2 ^ 64 ≡ s.pc + 8
call_ends s k at =
    let within = at.within in
    let below = at.below in
    let apart = at.apart in
    let f : s.pc + 4 + 4 ≤ s.code_end = ends s.mem s.code_end (s.pc + 4) _ _ (tail s.mem s.code_end s.pc _ _ at.here) in
    omega arith

pub show_goes : ShowGoes
show_goes s z at = goes_to (call_goes s 1 (lit< tt) z at) (λ i. record s { pc = call_ends s 1 at i; regs = set_reg 17 1 s.regs })

pub line_goes : LineGoes
line_goes s z at = goes_to (call_goes s 4 (lit< tt) z at) (λ i. record s { pc = call_ends s 4 at i; regs = set_reg 17 4 s.regs })

pub print_goes : PrintGoes
print_goes s c hc at =
    let a0 = ready_first s (constant 10 c) show_code at in
    let g = constant_goes s 10 c (lit< tt) (lit< tt) hc a0 in
    let t = after 10 c 8 s in
    let a1 = ready_rest s (constant 10 c) show_code (set_reg 10 c s.regs) at in
    let p : s.pc + 32 + 8 ≡ s.pc + 40 = omega arith in
    goes_to (goes_then g (show_goes t refl a1)) (λ i. record s { pc = p i; regs = set_reg 17 1 (set_reg 10 c s.regs) })

-- a number into register 10, and then the words of a call
argument_goes : (s : State) (v k : ℕ) → v < 2 ^ 63 → s.regs 0 ≡ 0 → Ready s (Imm Addi 10 0 (pos v) ∷ call_code k) → Goes 1 s (after 10 v 1 s) []
argument_goes s v k vb z at =
    let within = at.within in
    let below = at.below in
    let apart = at.apart in
    let f : s.pc + 4 ≤ s.code_end = ends s.mem s.code_end s.pc _ _ at.here in
    let p : (s.pc + 4) % 2 ^ 64 ≡ s.pc + 4 = omega arith in
    let e : (s.regs 0 + v) % 2 ^ 64 ≡ v = ap (λ x. (x + v) % 2 ^ 64) z ∙ omega arith in
    goes_to (goes_one (step_at s s.pc _ _ refl at.runs at.here)) (λ i. record s { pc = p i; regs = set_reg 10 (e i) s.regs })

pub byte_goes : ByteGoes
byte_goes s b hb z at =
    let g = argument_goes s b 3 (omega arith) z at in
    let a1 = ready_rest s (Imm Addi 10 0 (pos b) ∷ []) (call_code 3) (set_reg 10 b s.regs) at in
    let t = after 10 b 1 s in
    let p : (s.pc + 4 + 4 + 4) % 2 ^ 64 ≡ s.pc + 12 = call_ends t 3 a1 ∙ omega arith in
    let e : b % 256 ∷ [] ≡ b ∷ [] = let m : b % 256 ≡ b = omega arith in ap (λ x. x ∷ []) m in
    let k = goes_then g (call_goes t 3 (lit< tt) refl a1) in
    record { stands = k.stands ∙ (λ i. record s { pc = p i; regs = set_reg 17 3 (set_reg 10 b s.regs) }); prints = k.prints ∙ e }

pub halt_goes : HaltGoes
halt_goes s z at =
    let g = argument_goes s 0 93 (lit< tt) z at in
    let a1 = ready_rest s (Imm Addi 10 0 (pos 0) ∷ []) (call_code 93) (set_reg 10 0 s.regs) at in
    let t = after 10 0 1 s in
    let p : s.pc + 4 + 4 ≡ s.pc + 8 = omega arith in
    goes_to (goes_then g (call_goes t 93 (lit< tt) refl a1)) (λ i. record s { pc = p i; regs = set_reg 17 93 (set_reg 10 0 s.regs); outcome = Halted 0 })

-- ---- calls of procedures

pub jump_goes : JumpGoes
jump_goes s to t al near at =
    let D = distance s.pc to in
    let below = at.below in
    let apart = at.apart in
    let within = at.within in
    let h1 = tail s.mem s.code_end s.pc _ _ at.here in
    let f : s.pc + 4 + 4 ≤ s.code_end = ends s.mem s.code_end (s.pc + 4) _ _ h1 in
    let p0 : (s.pc + 4) % 2 ^ 64 ≡ s.pc + 4 = omega arith in
    let p1 : ((s.pc + 4) % 2 ^ 64 + 4) % 2 ^ 64 ≡ s.pc + 8 = omega arith in
    let A = (s.pc + bits_of (upper D) * 4096 % 2 ^ 64) % 2 ^ 64 in
    let t1 = exec (Auipc 1 (upper D)) s in
    let d0 = step_at s s.pc _ _ refl at.runs at.here in
    let d1 = step_at t1 (s.pc + 4) _ _ p0 at.runs h1 in
    let e : (A + bits_of (lower D)) % 2 ^ 64 ≡ to = pair_value s.pc to (omega arith) t near in
    let e2 : (A + bits_of (lower D)) % 2 ^ 64 / 2 * 2 ≡ to = ap (λ x. x / 2 * 2) e ∙ omega arith in
    goes_to (goes_then (goes_one d0) (goes_one d1))
    ((λ i. linked 1 (e2 i) (p1 i) t1)
    ∙ rw (eq-eqb (to % 4) 0 al) (λ i. record s { pc = to; regs = set_twice 1 A (s.pc + 8) s.regs i }))

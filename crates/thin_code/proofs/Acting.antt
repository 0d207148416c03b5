-- What the pieces of a statement's code do, from a state that is ready for them.
use Rattle.std.proofs.Common.{◌≡◌, ℕ, ◌+◌, ◌-◌, ◌*◌, ◌%◌, ◌^◌, ◌≤◌, ◌<◌, List, [], ◌∷◌, ◌++◌, length, Some, refl, sym, ap, ◌∙◌, subst, append_assoc, arith, lit<}
use Rattle.std.specs.Fmt.{signed_decimal}
use Rattle.rv_isa.specs.declared.inst.Inst.{Inst}
use Rattle.thin_form.specs.declared.statement.Sign.{Sign}
use Rattle.thin_form.specs.declared.statement.Sign.TheVariants.{Plus, Minus}
use Rattle.rv_machine.specs.declared.outcome.Outcome.TheVariants.{Halted}
use Rattle.rv_machine.specs.Memory.{Memory, read, write}
use Rattle.rv_machine.specs.Machine.{State, set_reg, number_of, reg_value}
use Rattle.rv_code.specs.Line.{Goes, constant}
use Rattle.rv_code.specs.Pieces.{Ready as Runs, IsUnit, after, load_code, save_code, operation_code, byte_code, show_code, line_code, halt_code}
use Rattle.rv_code.proofs.Lines.{ends, goes_then, goes_none, ready_first, ready_rest, ready_saved}
use Rattle.rv_code.proofs.Constants.{constant_goes}
use Rattle.rv_code.proofs.Pieces.{operation_goes, load_goes, save_goes, show_goes, byte_goes, line_goes, halt_goes}
use Rattle.thin_code.specs.Code.{Frame, operation}
use Rattle.thin_code.proofs.Effects.{joined_words}

-- The code stands at p, where the machine is about to run it, and the frame's data can be reached from there.
pub record Ready (f : Frame) (code : List Inst) (p : ℕ) (s : State) : Type 0 where
  pub at : s.pc ≡ p
  pub runs : Runs s code
  pub zero : s.regs 0 ≡ 0
  pub low : 65536 ≤ p
  pub data_is : s.data_at ≡ f.data_at
  pub end_is : s.data_end ≡ f.data_at + 8 * length f.names
  pub aligned : f.data_at % 8 ≡ 0
  pub near : f.data_at + 8 * length f.names < 65536 + (2 ^ 31 - 4096)

pub ready_split : (f : Frame) (a b c : List Inst) (p : ℕ) (s : State) → Ready f ((a ++ b) ++ c) p s → Ready f (a ++ (b ++ c)) p s
ready_split f a b c p s r = subst (λ x. Ready f x p s) (append_assoc a b c) r

-- behind a piece that stores nothing
on : (f : Frame) (is rest : List Inst) (p : ℕ) (s : State) (regs : ℕ → ℕ) → regs 0 ≡ 0 → Ready f (is ++ rest) p s → Ready f rest (p + 4 * length is) (record s { pc = s.pc + 4 * length is; regs = regs })
on f is rest p s regs z r = record {
  at = ap (λ q. q + 4 * length is) r.at;
  runs = ready_rest s is rest regs r.runs;
  zero = z;
  low = omega (arith, r.low);
  data_is = r.data_is;
  end_is = r.end_is;
  aligned = r.aligned;
  near = r.near;
}

-- words that put a number into a register
pub record Puts (f : Frame) (rest : List Inst) (p n : ℕ) (s : State) (d v : ℕ) : Type 0 where
  pub then : State
  pub goes : Goes n s then []
  pub ready : Ready f rest (p + 4 * n) then
  pub mem : then.mem ≡ s.mem
  pub regs : then.regs ≡ set_reg d v s.regs

-- words that lead to a memory and print a text
pub record Acts (f : Frame) (rest : List Inst) (p n : ℕ) (s : State) (m : Memory) (o : List ℕ) : Type 0 where
  pub then : State
  pub goes : Goes n s then o
  pub ready : Ready f rest (p + 4 * n) then
  pub mem : then.mem ≡ m

-- an address within the data
pub record Lies (f : Frame) (to : ℕ) : Type 0 where
  pub from_start : f.data_at ≤ to
  pub to_end : to + 8 ≤ f.data_at + 8 * length f.names
  pub on_unit : to % 8 ≡ 0

unit_of : (f : Frame) (i : Inst) (code : List Inst) (p : ℕ) (s : State) (to : ℕ) → Lies f to → Ready f (i ∷ code) p s → IsUnit s s.pc to
unit_of f i code p s to a r =
    let apart = r.runs.apart in
    let code_end : s.pc + 4 ≤ s.code_end = ends s.mem s.code_end s.pc i code r.runs.here in
    record {
      from = omega (arith, r.data_is, a.from_start);
      upto = omega (arith, r.end_is, a.to_end);
      aligned = a.on_unit;
      near = omega (arith, r.at, r.low, apart, code_end, r.data_is, r.near, a.from_start, a.to_end);
    }

-- code that was written for p stands at pc
here : (f : Frame) (code : ℕ → List Inst) (rest : List Inst) (p : ℕ) (s : State) → Ready f (code p ++ rest) p s → Ready f (code s.pc ++ rest) p s
here f code rest p s r = subst (λ q. Ready f (code q ++ rest) p s) (sym r.at) r

-- a constant
pub puts_constant : (f : Frame) (rest : List Inst) (p : ℕ) (s : State) (d c : ℕ) → 0 < d → d < 32 → c < 2 ^ 64 → Ready f (constant d c ++ rest) p s → Puts f rest p 8 s d c
puts_constant f rest p s d c h0 h1 hc r = record {
  then = after d c 8 s;
  goes = constant_goes s d c h0 h1 hc (ready_first s (constant d c) rest r.runs);
  ready = on f (constant d c) rest p s (set_reg d c s.regs) refl r;
  mem = refl;
  regs = refl;
}

-- a variable
pub puts_load : (f : Frame) (rest : List Inst) (p : ℕ) (s : State) (d to : ℕ) → 0 < d → Lies f to → Ready f (load_code p to d ++ rest) p s → Puts f rest p 3 s d (read 8 s.mem to)
puts_load f rest p s d to h a r =
    let q = here f (λ p. load_code p to d) rest p s r in
    record {
      then = after d (read 8 s.mem to) 3 s;
      goes = load_goes s to d h (unit_of f _ _ p s to a q) (ready_first s (load_code s.pc to d) rest q.runs);
      ready = on f (load_code s.pc to d) rest p s (set_reg d (read 8 s.mem to) s.regs) refl q;
      mem = refl;
      regs = refl;
    }

-- the operation of a sign on the sum in register 5 and register 7
pub operates : (f : Frame) (rest : List Inst) (p : ℕ) (s : State) (sign : Sign) (x y : ℕ) → s.regs 5 ≡ x → s.regs 7 ≡ y → Ready f (operation_code (operation sign) 5 5 7 ++ rest) p s → Puts f rest p 1 s 5 (joined_words sign x y)
operates f rest p s sign x y ex ey r = record {
  then = after 5 (joined_words sign x y) 1 s;
  goes = operation_goes s (operation sign) 5 5 7 (joined_words sign x y) ((λ i. reg_value (operation sign) (ex i) (ey i)) ∙ value sign) (ready_first s (operation_code (operation sign) 5 5 7) rest r.runs);
  ready = on f (operation_code (operation sign) 5 5 7) rest p s (set_reg 5 (joined_words sign x y) s.regs) refl r;
  mem = refl;
  regs = refl;
}
  where
    value : (sign : Sign) → reg_value (operation sign) x y ≡ Some (joined_words sign x y)
    value Plus = refl
    value Minus = refl

-- register 5 into a variable
pub acts_save : (f : Frame) (rest : List Inst) (p : ℕ) (s : State) (to v : ℕ) → s.regs 5 ≡ v → Lies f to → Ready f (save_code p to 5 ++ rest) p s → Acts f rest p 3 s (write 8 to v s.mem) []
acts_save f rest p s to v e a r =
    let q = here f (λ p. save_code p to 5) rest p s r in
    let w = s.regs 5 in
    record {
      then = record s { pc = s.pc + 4 * 3; regs = set_reg 6 to s.regs; mem = write 8 to w s.mem };
      goes = save_goes s to 5 (lit< tt) (λ e. absurd (omega (arith, e))) (unit_of f _ _ p s to a q) (ready_first s (save_code s.pc to 5) rest q.runs);
      ready = record {
        at = ap (λ q. q + 4 * 3) r.at;
        runs = ready_saved s (save_code s.pc to 5) rest (set_reg 6 to s.regs) 8 to w (omega (arith, r.data_is, a.from_start)) q.runs;
        zero = refl;
        low = omega (arith, r.low);
        data_is = r.data_is;
        end_is = r.end_is;
        aligned = r.aligned;
        near = r.near;
      };
      mem = ap (λ v. write 8 to v s.mem) e;
    }

-- a byte
pub acts_byte : (f : Frame) (rest : List Inst) (p : ℕ) (s : State) (b : ℕ) → b < 256 → Ready f (byte_code b ++ rest) p s → Acts f rest p 3 s s.mem (b ∷ [])
acts_byte f rest p s b h r = record {
  then = record s { pc = s.pc + 4 * 3; regs = set_reg 17 3 (set_reg 10 b s.regs) };
  goes = byte_goes s b h r.zero (ready_first s (byte_code b) rest r.runs);
  ready = on f (byte_code b) rest p s (set_reg 17 3 (set_reg 10 b s.regs)) refl r;
  mem = refl;
}

-- the number in register 10
pub acts_show : (f : Frame) (rest : List Inst) (p : ℕ) (s : State) (x : ℕ) → s.regs 10 ≡ x → Ready f (show_code ++ rest) p s → Acts f rest p 2 s s.mem (signed_decimal (number_of x))
acts_show f rest p s x e r = record {
  then = after 17 1 2 s;
  goes = subst (λ y. Goes 2 s (after 17 1 2 s) (signed_decimal (number_of y))) e (show_goes s r.zero (ready_first s show_code rest r.runs));
  ready = on f show_code rest p s (set_reg 17 1 s.regs) refl r;
  mem = refl;
}

-- the end of a line
pub acts_line : (f : Frame) (rest : List Inst) (p : ℕ) (s : State) → Ready f (line_code ++ rest) p s → Acts f rest p 2 s s.mem (10 ∷ [])
acts_line f rest p s r = record {
  then = after 17 4 2 s;
  goes = line_goes s r.zero (ready_first s line_code rest r.runs);
  ready = on f line_code rest p s (set_reg 17 4 s.regs) refl r;
  mem = refl;
}

-- the end of the run
pub record Halts (n : ℕ) (s : State) : Type 0 where
  pub then : State
  pub goes : Goes n s then []
  pub halted : then.outcome ≡ Halted 0

pub halts : (f : Frame) (rest : List Inst) (p : ℕ) (s : State) → Ready f (halt_code ++ rest) p s → Halts 3 s
halts f rest p s r = record {
  then = record s { pc = s.pc + 8; regs = set_reg 17 93 (set_reg 10 0 s.regs); outcome = Halted 0 };
  goes = halt_goes s r.zero (ready_first s halt_code rest r.runs);
  halted = refl;
}

-- ---- one piece after another

pub acts_none : (f : Frame) (rest : List Inst) (p : ℕ) (s : State) → Ready f rest p s → Acts f rest p 0 s s.mem []
acts_none f rest p s r =
    let z : p ≡ p + 4 * 0 = omega arith in
    record { then = s; goes = goes_none s; ready = subst (λ q. Ready f rest q s) z r; mem = refl }

pub acts_then : (f : Frame) (rest more : List Inst) (p n k m : ℕ) (s : State) (x y : Memory) (o q : List ℕ) → n + k ≡ m → (a : Acts f more p n s x o) → Acts f rest (p + 4 * n) k a.then y q → Acts f rest p m s y (o ++ q)
acts_then f rest more p n k m s x y o q e a b =
    let z : p + 4 * n + 4 * k ≡ p + 4 * m = omega (arith, e) in
    record {
      then = b.then;
      goes = subst (λ m. Goes m s b.then (o ++ q)) e (goes_then a.goes b.goes);
      ready = subst (λ q. Ready f rest q b.then) z b.ready;
      mem = b.mem;
    }

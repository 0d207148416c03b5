-- The machine: registers, pc and a memory of bytes, by the RISC-V unprivileged manual's RV64I as far as the rows go that run.
use Rattle.std.specs.Prelude.{ℕ, zero, suc, ◌+◌, ◌-◌, ◌*◌, ◌/◌, ◌%◌, ◌^◌, ℤ, Bool, cond, nat_eq, nat_le, ◌&&◌, ◌||◌, List, [], ◌∷◌, ◌++◌, Option, Some, None}
use Rattle.std.specs.Fmt.{signed_decimal}
use Rattle.std.specs.Int.{w32, w64, cast_signed, cast_unsigned}
use Rattle.rv_isa.specs.declared.inst.Inst.{Inst}
use Rattle.rv_isa.specs.declared.inst.Inst.TheVariants.{Lui, Auipc, Jalr, Load, Store, Imm, Reg, ImmWord, Ecall, Ebreak}
use Rattle.rv_isa.specs.declared.inst.LoadOp.TheVariants.{Ld}
use Rattle.rv_isa.specs.declared.inst.StoreOp.TheVariants.{Sd}
use Rattle.rv_isa.specs.declared.inst.ImmOp.{ImmOp}
use Rattle.rv_isa.specs.declared.inst.ImmOp.TheVariants.{Addi, Slli}
use Rattle.rv_isa.specs.declared.inst.RegOp.{RegOp}
use Rattle.rv_isa.specs.declared.inst.RegOp.TheVariants.{Add, Sub}
use Rattle.rv_isa.specs.declared.inst.ImmWordOp.{ImmWordOp}
use Rattle.rv_isa.specs.declared.inst.ImmWordOp.TheVariants.{Addiw}
use Rattle.rv_isa.specs.Table.{decode_word}
use Rattle.rv_machine.specs.declared.outcome.TrapCause.{TrapCause}
use Rattle.rv_machine.specs.declared.outcome.TrapCause.TheVariants.{Misaligned, Unmapped, UnknownWord, Breakpoint, UnknownCall}
use Rattle.rv_machine.specs.declared.outcome.Outcome.{Outcome}
use Rattle.rv_machine.specs.declared.outcome.Outcome.TheVariants.{Running, Halted, Trap}
use Rattle.rv_machine.specs.Memory.{Memory, read, write}

-- The code lies from 65536 to code_end, the data from data_at to data_end; no other byte is mapped.
pub record State : Type 0 where
  pub pc : ℕ
  pub regs : ℕ → ℕ
  pub mem : Memory
  pub code_end : ℕ
  pub data_at : ℕ
  pub data_end : ℕ
  pub input : List ℤ
  pub outcome : Outcome

-- ---- words of 64 bits

abbrev pub plus : ℕ → ℕ → ℕ
plus a b = (a + b) % 2 ^ 64

-- a signed number as 64 bits, and back
abbrev pub bits_of : ℤ → ℕ
bits_of z = cast_unsigned w64 z

abbrev pub number_of : ℕ → ℤ
number_of n = cast_signed w64 n

-- the lower 32 bits, with bit 31 above them
abbrev pub widened : ℕ → ℕ
widened x = bits_of (cast_signed w32 (x % 2 ^ 32))

-- ---- changes of a state

-- register 0 stays 0
abbrev pub set_reg : ℕ → ℕ → (ℕ → ℕ) → ℕ → ℕ
set_reg d v r x = cond (nat_eq x 0) 0 (cond (nat_eq x d) v (r x))

abbrev pub set : ℕ → ℕ → State → State
set d v s = record s { regs = set_reg d v s.regs }

abbrev pub next : State → State
next s = record s { pc = plus s.pc 4 }

abbrev pub trap : TrapCause → State → State
trap c s = record s { outcome = Trap s.pc c }

-- a jump that keeps the address to come back to
abbrev pub linked : (d to back : ℕ) → State → State
linked d to back s = cond (nat_eq (to % 4) 0) (record s { pc = to; regs = set_reg d back s.regs }) (trap Misaligned s)

-- ---- operations

abbrev pub imm_value : ImmOp → ℕ → ℤ → Option ℕ
imm_value Addi x z = Some (plus x (bits_of z))
imm_value Slli x z = Some (x * 2 ^ bits_of z % 2 ^ 64)
imm_value _ x z = None

abbrev pub reg_value : RegOp → ℕ → ℕ → Option ℕ
reg_value Add x y = Some (plus x y)
reg_value Sub x y = Some ((x + (2 ^ 64 - y)) % 2 ^ 64)
reg_value _ x y = None

abbrev pub imm_word_value : ImmWordOp → ℕ → ℤ → Option ℕ
imm_word_value Addiw x z = Some (widened (x + bits_of z))
imm_word_value _ x z = None

abbrev pub set_or_trap : ℕ → Option ℕ → State → State
set_or_trap d None s = trap UnknownWord s
set_or_trap d (Some v) s = next (set d v s)

-- ---- memory

abbrev pub is_within : (n a from to : ℕ) → Bool
is_within n a from to = nat_le from a && nat_le (a + n) to

-- what an access of n bytes at a leads to: its own effect, or a trap
abbrev pub accessed : (n a : ℕ) → (mapped : Bool) → State → State → State
accessed n a mapped s done = cond (nat_eq (a % n) 0) (cond mapped done (trap Unmapped s)) (trap Misaligned s)

abbrev pub is_readable : (n a : ℕ) → State → Bool
is_readable n a s = is_within n a 65536 s.code_end || is_within n a s.data_at s.data_end

abbrev pub is_writable : (n a : ℕ) → State → Bool
is_writable n a s = is_within n a s.data_at s.data_end

abbrev pub stored : (n a v : ℕ) → State → State
stored n a v s = record s { mem = write n a v s.mem }

-- an unsigned load, and a store
abbrev pub loaded : (n d a : ℕ) → State → State
loaded n d a s = accessed n a (is_readable n a s) s (next (set d (read n s.mem a) s))

abbrev pub kept : (n a v : ℕ) → State → State
kept n a v s = accessed n a (is_writable n a s) s (next (stored n a v s))

-- ---- environment calls

abbrev pub read_input : List ℤ → State → State
read_input [] s = next (set 11 1 (set 10 0 s))
read_input (z ∷ zs) s = next (set 11 0 (set 10 (bits_of z) (record s { input = zs })))

abbrev pub is_printing : ℕ → Bool
is_printing k = nat_le 1 k && nat_le k 4

abbrev pub called : (number : ℕ) → State → State
called k s =
    cond (is_printing k) (next s)
    (cond (nat_eq k 5) (read_input s.input s)
    (cond (nat_eq k 93) (record s { outcome = Halted (s.regs 10 % 256) }) (trap UnknownCall s)))

-- a number, a truth value, a byte, the end of a line
abbrev pub called_prints : (number : ℕ) → State → List ℕ
called_prints k s =
    cond (nat_eq k 1) (signed_decimal (number_of (s.regs 10)))
    (cond (nat_eq k 2) (cond (nat_eq (s.regs 10) 0) 70 84 ∷ [])
    (cond (nat_eq k 3) (s.regs 10 % 256 ∷ [])
    (cond (nat_eq k 4) (10 ∷ []) [])))

-- ---- one instruction

abbrev pub exec : Inst → State → State
exec (Lui d z) s = next (set d (bits_of z * 4096 % 2 ^ 64) s)
exec (Auipc d z) s = next (set d (plus s.pc (bits_of z * 4096 % 2 ^ 64)) s)
exec (Jalr d a z) s = linked d (plus (s.regs a) (bits_of z) / 2 * 2) (plus s.pc 4) s
exec (Load Ld d a z) s = loaded 8 d (plus (s.regs a) (bits_of z)) s
exec (Store Sd a b z) s = kept 8 (plus (s.regs a) (bits_of z)) (s.regs b) s
exec (Imm op d a z) s = set_or_trap d (imm_value op (s.regs a) z) s
exec (Reg op d a b) s = set_or_trap d (reg_value op (s.regs a) (s.regs b)) s
exec (ImmWord op d a z) s = set_or_trap d (imm_word_value op (s.regs a) z) s
exec Ecall s = called (s.regs 17) s
exec Ebreak s = trap Breakpoint s
exec _ s = trap UnknownWord s

-- what it prints
abbrev pub prints : Inst → State → List ℕ
prints Ecall s = called_prints (s.regs 17) s
prints _ s = []

abbrev pub IsQuiet : Inst → Type 0
IsQuiet Ecall = ⊥
IsQuiet _ = Unit {0}

-- ---- steps

abbrev pub is_fetchable : State → Bool
is_fetchable s = is_within 4 s.pc 65536 s.code_end

unfoldable pub fetched : State → Option Inst
fetched s = decode_word (read 4 s.mem s.pc)

abbrev pub exec_fetched : Option Inst → State → State
exec_fetched None s = trap UnknownWord s
exec_fetched (Some i) s = exec i s

abbrev pub print_fetched : Option Inst → State → List ℕ
print_fetched None s = []
print_fetched (Some i) s = prints i s

abbrev pub step_by : Outcome → State → State
step_by Running s = cond (is_fetchable s) (exec_fetched (fetched s) s) (trap Unmapped s)
step_by (Halted k) s = s
step_by (Trap a c) s = s

abbrev pub prints_by : Outcome → State → List ℕ
prints_by Running s = cond (is_fetchable s) (print_fetched (fetched s) s) []
prints_by (Halted k) s = []
prints_by (Trap a c) s = []

-- one step, and what it prints
unfoldable pub step : State → State
step s = step_by s.outcome s

unfoldable pub step_prints : State → List ℕ
step_prints s = prints_by s.outcome s

-- the state after n steps, and what they print
abbrev pub run : ℕ → State → State
run zero s = s
run (suc n) s = run n (step s)

abbrev pub output : ℕ → State → List ℕ
output zero s = []
output (suc n) s = step_prints s ++ output n (step s)

-- Pieces of code and what they do. Each starts in a state that runs, in which the piece stands at pc.
use Rattle.std.specs.Prelude.{◌≡◌, ◌≢◌, ℕ, ◌+◌, ◌*◌, ◌%◌, ◌^◌, ◌≤◌, ◌<◌, pos, Some, List, [], ◌∷◌, ◌++◌}
use Rattle.std.specs.Fmt.{signed_decimal}
use Rattle.rv_isa.specs.declared.inst.Inst.{Inst}
use Rattle.rv_isa.specs.declared.inst.Inst.TheVariants.{Auipc, Jalr, Load, Store, Imm, Reg, Ecall}
use Rattle.rv_isa.specs.declared.inst.ImmOp.TheVariants.{Addi}
use Rattle.rv_isa.specs.declared.inst.RegOp.{RegOp}
use Rattle.rv_isa.specs.declared.inst.LoadOp.TheVariants.{Ld}
use Rattle.rv_isa.specs.declared.inst.StoreOp.TheVariants.{Sd}
use Rattle.rv_machine.specs.declared.outcome.Outcome.TheVariants.{Running, Halted}
use Rattle.rv_machine.specs.Memory.{read, write}
use Rattle.rv_machine.specs.Machine.{State, set_reg, number_of, reg_value}
use Rattle.rv_code.specs.Line.{HasAt, Goes, constant, upper, lower, distance, IsNear}

-- the state n words on, with v in register d
abbrev pub after : (d v n : ℕ) → State → State
after d v n s = record s { pc = s.pc + 4 * n; regs = set_reg d v s.regs }

-- The piece stands at pc of a state that runs, and the segments lie as those of a loaded file do.
pub record Ready (s : State) (is : List Inst) : Type 0 where
  pub runs : s.outcome ≡ Running
  pub here : HasAt s.mem s.code_end s.pc is
  pub apart : s.code_end ≤ s.data_at
  pub within : s.data_end < 2 ^ 63
  pub below : s.data_at ≤ s.data_end

-- a unit of the data that a pair of words at p reaches
pub record IsUnit (s : State) (p to : ℕ) : Type 0 where
  pub from : s.data_at ≤ to
  pub upto : to + 8 ≤ s.data_end
  pub aligned : to % 8 ≡ 0
  pub near : IsNear (distance p to)

-- ---- values

abbrev pub ConstantGoes : Type 0
ConstantGoes = (s : State) (d c : ℕ) → 0 < d → d < 32 → c < 2 ^ 64 → Ready s (constant d c) → Goes 8 s (after d c 8 s) []

-- the sum, the difference and so on of two registers
abbrev pub operation_code : RegOp → (d a b : ℕ) → List Inst
operation_code op d a b = Reg op d a b ∷ []

abbrev pub OperationGoes : Type 0
OperationGoes = (s : State) (op : RegOp) (d a b v : ℕ) → reg_value op (s.regs a) (s.regs b) ≡ Some v → Ready s (operation_code op d a b) → Goes 1 s (after d v 1 s) []

-- ---- units of the data

-- the unit at `to` into register d, by its address in the same register
abbrev pub load_code : (from to d : ℕ) → List Inst
load_code from to d = Auipc d (upper (distance from to)) ∷ Imm Addi d d (lower (distance from to)) ∷ Load Ld d d (pos 0) ∷ []

abbrev pub LoadGoes : Type 0
LoadGoes = (s : State) (to d : ℕ) → 0 < d → IsUnit s s.pc to → Ready s (load_code s.pc to d) → Goes 3 s (after d (read 8 s.mem to) 3 s) []

-- register b into the unit at `to`, by its address in register 6
abbrev pub save_code : (from to b : ℕ) → List Inst
save_code from to b = Auipc 6 (upper (distance from to)) ∷ Imm Addi 6 6 (lower (distance from to)) ∷ Store Sd 6 b (pos 0) ∷ []

abbrev pub saved : (to v n : ℕ) → State → State
saved to v n s = record s { pc = s.pc + 4 * n; regs = set_reg 6 to s.regs; mem = write 8 to v s.mem }

abbrev pub SaveGoes : Type 0
SaveGoes = (s : State) (to b : ℕ) → 0 < b → b ≢ 6 → IsUnit s s.pc to → Ready s (save_code s.pc to b) → Goes 3 s (saved to (s.regs b) 3 s) []

-- a constant into the unit at `to`
abbrev pub store_code : (from to c : ℕ) → List Inst
store_code from to c = constant 5 c ++ save_code (from + 32) to 5

abbrev pub StoreGoes : Type 0
StoreGoes = (s : State) (to c : ℕ) → c < 2 ^ 64 → IsUnit s (s.pc + 32) to → Ready s (store_code s.pc to c)
    → Goes 11 s (record s { pc = s.pc + 44; regs = set_reg 6 to (set_reg 5 c s.regs); mem = write 8 to c s.mem }) []

-- ---- environment calls

-- the call of this number
abbrev pub call_code : ℕ → List Inst
call_code k = Imm Addi 17 0 (pos k) ∷ Ecall ∷ []

-- the number in register 10
abbrev pub show_code : List Inst
show_code = call_code 1

abbrev pub ShowGoes : Type 0
ShowGoes = (s : State) → s.regs 0 ≡ 0 → Ready s show_code → Goes 2 s (after 17 1 2 s) (signed_decimal (number_of (s.regs 10)))

-- a constant number
abbrev pub print_code : ℕ → List Inst
print_code c = constant 10 c ++ show_code

abbrev pub PrintGoes : Type 0
PrintGoes = (s : State) (c : ℕ) → c < 2 ^ 64 → Ready s (print_code c)
    → Goes 10 s (record s { pc = s.pc + 40; regs = set_reg 17 1 (set_reg 10 c s.regs) }) (signed_decimal (number_of c))

-- one byte
abbrev pub byte_code : ℕ → List Inst
byte_code b = Imm Addi 10 0 (pos b) ∷ call_code 3

abbrev pub ByteGoes : Type 0
ByteGoes = (s : State) (b : ℕ) → b < 256 → s.regs 0 ≡ 0 → Ready s (byte_code b)
    → Goes 3 s (record s { pc = s.pc + 12; regs = set_reg 17 3 (set_reg 10 b s.regs) }) (b ∷ [])

-- the end of a line
abbrev pub line_code : List Inst
line_code = call_code 4

abbrev pub LineGoes : Type 0
LineGoes = (s : State) → s.regs 0 ≡ 0 → Ready s line_code → Goes 2 s (after 17 4 2 s) (10 ∷ [])

-- the end, with status 0: pc stays at the call
abbrev pub halt_code : List Inst
halt_code = Imm Addi 10 0 (pos 0) ∷ call_code 93

abbrev pub HaltGoes : Type 0
HaltGoes = (s : State) → s.regs 0 ≡ 0 → Ready s halt_code
    → Goes 3 s (record s { pc = s.pc + 8; regs = set_reg 17 93 (set_reg 10 0 s.regs); outcome = Halted 0 }) []

-- ---- calls of procedures

-- a jump to a near target that keeps the address of the next word in register 1
abbrev pub jump_code : (from to : ℕ) → List Inst
jump_code from to = Auipc 1 (upper (distance from to)) ∷ Jalr 1 1 (lower (distance from to)) ∷ []

abbrev pub JumpGoes : Type 0
JumpGoes = (s : State) (to : ℕ) → to < 2 ^ 63 → to % 4 ≡ 0 → IsNear (distance s.pc to) → Ready s (jump_code s.pc to)
    → Goes 2 s (record s { pc = to; regs = set_reg 1 (s.pc + 8) s.regs }) []

-- The state that a machine keeps.
use Rattle.std.specs.Prelude.{ℕ, ◌+◌, ◌-◌, cond, nat_eq, nat_lt, List, slice_index, drop, vec_len}
use Rattle.rv_machine.specs.declared.kept.Machine.{Machine}
use Rattle.rv_machine.specs.Memory.{Memory}
use Rattle.rv_machine.specs.Machine.{State}

-- two segments of bytes as one memory
abbrev pub whole : (code bytes : List ℕ) (data_at : ℕ) → Memory
whole code bytes data_at x = cond (nat_lt x data_at) (slice_index code (x - 65536)) (slice_index bytes (x - data_at))

abbrev pub reads_of : List ℕ → ℕ → ℕ
reads_of registers x = cond (nat_eq x 0) 0 (slice_index registers x)

abbrev pub state_of : Machine → State
state_of m = record {
  pc = m.pc;
  regs = reads_of m.registers;
  mem = whole m.code.items m.memory.items m.data_at;
  code_end = 65536 + vec_len m.code;
  data_at = m.data_at;
  data_end = m.data_at + vec_len m.memory;
  input = drop m.next m.input.items;
  outcome = m.outcome;
}

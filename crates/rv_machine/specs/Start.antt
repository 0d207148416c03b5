-- The state at the start of an executable file.
use Rattle.std.specs.Prelude.{◌≡◌, ℕ, ◌+◌, ◌-◌, ℤ, List, ◌++◌, length}
use Rattle.elf_file.specs.Shape.{Shape, data_at, zeros}
use Rattle.rv_machine.specs.declared.outcome.Outcome.TheVariants.{Running}
use Rattle.rv_machine.specs.Machine.{State}
use Rattle.rv_machine.specs.Kept.{whole}

-- pc at the code's first byte, registers of 0, and zeros behind the data that the file has
abbrev pub start : (code file : List ℕ) (memory : ℕ) → List ℤ → State
start code file memory input = record {
  pc = 65536;
  regs = λ x. 0;
  mem = whole code (file ++ zeros (memory - length file)) (data_at (length code));
  code_end = 65536 + length code;
  data_at = data_at (length code);
  data_end = data_at (length code) + memory;
  input = input;
  outcome = Running;
}

-- the file has this shape with some parts, and the state is that of its start
pub record Loads (bytes : List ℕ) (input : List ℤ) (s : State) : Type 0 where
  pub code : List ℕ
  pub file : List ℕ
  pub memory : ℕ
  pub shape : Shape bytes code file memory
  pub stands : s ≡ start code file memory input

-- When an executable does what a program means, whatever the meaning is by which the program's runs are told.
use Rattle.std.specs.Prelude.{◌≡◌, ◌≢◌, ℕ, ◌+◌, ◌*◌, ◌≤◌, List, ℤ}
use Rattle.run_inputs.specs.Inputs.{AllWord64}
use Rattle.run_model.specs.Runs.{Run, Going, Finished, UndefinedAt, Wrong}
use Rattle.rv_machine.specs.declared.outcome.Outcome.TheVariants.{Running, Halted, Trap}
use Rattle.rv_machine.specs.declared.outcome.TrapCause.{TrapCause}
use Rattle.rv_machine.specs.Machine.{State, run, output}
use Rattle.rv_machine.specs.Start.{Loads}
use Rattle.elf_file.specs.Shape.{NoShape}

-- Two numbers bound how steps of the program and instructions go together: so many steps for an instruction at most, and so many
-- words for a step.

-- After some number of instructions within the bound of n steps the machine runs and has printed this.
pub record Reaches (steps words : ℕ) (s : State) (n : ℕ) (out : List ℕ) : Type 0 where
  pub count : ℕ
  pub enough : n ≤ (count + 1) * steps
  pub within : count ≤ n * words + 2
  pub runs : (run count s).outcome ≡ Running
  pub prints : output count s ≡ out

-- After some number of instructions within the bound of n steps the machine has halted and has printed this.
pub record Ends (words : ℕ) (s : State) (n status : ℕ) (out : List ℕ) : Type 0 where
  pub count : ℕ
  pub within : count ≤ n * words + 2
  pub halts : (run count s).outcome ≡ Halted status
  pub prints : output count s ≡ out

abbrev pub HasEnded : Run → Type 0
HasEnded (Finished k out) = Unit {0}
HasEnded (UndefinedAt n c out) = Unit {0}
HasEnded _ = ⊥

abbrev pub IsUndefined : Run → Type 0
IsUndefined (UndefinedAt n c out) = Unit {0}
IsUndefined _ = ⊥

-- The run goes on, has ended with status 0, or has met an undefined action.
abbrev pub IsOrderly : Run → Type 0
IsOrderly (Going out) = Unit {0}
IsOrderly (Finished status out) = status ≡ 0
IsOrderly (UndefinedAt n c out) = Unit {0}
IsOrderly Wrong = ⊥

-- A meaning gives the run of the program on an input, just before step n + 1 would begin. The file is an executable, and on every
-- input of integers of 64 bits the machine that starts on it does what the program does: it goes on and ends as the program does within
-- the bounds, and it halts and traps only where the program has ended or is undefined.
pub record Agrees (meaning : List ℤ → ℕ → Run) (steps words : ℕ) (file : List ℕ) : Type 0 where
  pub shaped : NoShape file → ⊥
  pub going : (input : List ℤ) → AllWord64 input → (s : State) → Loads file input s → (n : ℕ) (out : List ℕ) → meaning input n ≡ Going out → Reaches steps words s n out
  pub ended : (input : List ℤ) → AllWord64 input → (s : State) → Loads file input s → (n status : ℕ) (out : List ℕ) → meaning input n ≡ Finished status out → Ends words s n status out
  pub halted : (input : List ℤ) → AllWord64 input → (s : State) → Loads file input s → (m status : ℕ) → (run m s).outcome ≡ Halted status → HasEnded (meaning input ((m + 1) * steps))
  pub trapped : (input : List ℤ) → AllWord64 input → (s : State) → Loads file input s → (m pc : ℕ) (cause : TrapCause) → (run m s).outcome ≡ Trap pc cause → IsUndefined (meaning input ((m + 1) * steps))

-- On every such input the machine isn't running any more after so many instructions.
abbrev pub EndsWithin : List ℕ → ℕ → Type 0
EndsWithin file most = (input : List ℤ) → AllWord64 input → (s : State) → Loads file input s → (m : ℕ) → most ≤ m → (run m s).outcome ≢ Running

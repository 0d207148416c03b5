-- What is said of runs of steps.
use Rattle.std.specs.Prelude.{◌≡◌, ◌≢◌, ℕ, ◌+◌, ◌<◌, ◌≤◌, List, [], ◌++◌}
use Rattle.std.specs.declared.option.Option.{Option}
use Rattle.rn_ports.specs.Sent.{AppendsPart}
use Rattle.rv_machine.specs.declared.outcome.Outcome.TheVariants.{Running}
use Rattle.rv_machine.specs.Machine.{State, step, step_prints, run, output}

-- a machine that stays as it is and prints nothing
pub record IsOver (s : State) : Type 0 where
  pub stands : step s ≡ s
  pub prints : step_prints s ≡ []

-- The machine stands after fewer steps, and the known bytes grew by their output and a front of the next step's.
pub record IsPart (s : State) (steps : ℕ) (after : State) (old new : Option (List ℕ)) : Type 0 where
  pub done : ℕ
  pub fewer : done < steps
  pub stands : after ≡ run done s
  pub sent : AppendsPart old new (output (done + 1) s)

-- runs of a and then of b steps are one run of a + b
pub record RunsAdd (a b : ℕ) (s : State) : Type 0 where
  pub stands : run (a + b) s ≡ run b (run a s)
  pub prints : output (a + b) s ≡ output a s ++ output b (run a s)

-- more steps than lead to the end change nothing
pub record Stays (s : State) (k n : ℕ) : Type 0 where
  pub stands : run n s ≡ run k s
  pub prints : output n s ≡ output k s

abbrev pub RunsJoin : Type 0
RunsJoin = (a b : ℕ) (s : State) → RunsAdd a b s

abbrev pub EndStays : Type 0
EndStays = (s : State) (k n : ℕ) → k ≤ n → (run k s).outcome ≢ Running → Stays s k n

-- Laws of runs that call nothing, whose states are statement numbers.
use Rattle.std.specs.Prelude.{◌≡◌, ℕ, ◌+◌}
use Rattle.run_model.specs.Acts.{World, then_do, Act, and_then, Handler, play, no_calls}
use Rattle.run_model.specs.Turns.{After, run_from}
use Rattle.run_model.specs.Runs.{answer, RunExtends}

-- What was printed at fewer steps is a beginning of what is printed at more, and an end or an undefined action stays what it was.
abbrev pub GoesOnWithMoreSteps : Type 0
GoesOnWithMoreSteps = (turn : ℕ → Act (After ℕ)) (s : ℕ) (w : World) (k : ℕ) →
    RunExtends (answer w.left (run_from no_calls turn s w)) (answer (w.left + k) (run_from no_calls turn s (record w { left = w.left + k })))

-- An act whose end decides the next is played first, and the next where it left off. The ends are statement numbers here.
abbrev pub PlaysInOrder : Type 0
PlaysInOrder = (h : Handler) (a : Act ℕ) (f : ℕ → Act ℕ) (w : World) → play h (and_then a f) w ≡ then_do (play h a w) (λ x v. play h (f x) v)

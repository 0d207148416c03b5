-- That runs depend on their handlers at their own calls alone, and that calls stand in the order of the acts.
use Rattle.std.specs.Prelude.{◌≡◌, ℕ, List, []}
use Rattle.run_model.specs.Storage.{Interval}
use Rattle.run_model.specs.Acts.{World, Act, and_then, Handler, play}
use Rattle.run_model.specs.Turns.{After, run_from}
use Rattle.run_calls.specs.Calls.{Call, calls, calls_from, Each}
use Rattle.run_calls.specs.Same.{SameRun, AnswersSame, AnswersAlike}
use Rattle.run_calls.specs.Behaviours.{activation, DependsOnItsCalls}

-- the calls of an act by itself
abbrev pub calls_of : Handler → Act ℕ → World → List Call
calls_of h a w = calls h a w (λ x v. [])

pub record ActsDependOnTheirCalls : Type 0 where
  pub same_run : (h g : Handler) (a : Act ℕ) (w : World) → Each (AnswersSame h g) (calls_of h a w) → play g a w ≡ play h a w
  pub same_calls : (h g : Handler) (a : Act ℕ) (w : World) → Each (AnswersSame h g) (calls_of h a w) → calls_of g a w ≡ calls_of h a w
  pub alike : (h g : Handler) (a : Act ℕ) (w : World) → Each (AnswersAlike h g) (calls_of h a w) → SameRun (play h a w) (play g a w)

pub record TurnsDependOnTheirCalls : Type 0 where
  pub same_run : (h g : Handler) (turn : ℕ → Act (After ℕ)) (s : ℕ) (w : World) → Each (AnswersSame h g) (calls_from h turn s w)
      → run_from g turn s w ≡ run_from h turn s w
  pub same_calls : (h g : Handler) (turn : ℕ → Act (After ℕ)) (s : ℕ) (w : World) → Each (AnswersSame h g) (calls_from h turn s w)
      → calls_from g turn s w ≡ calls_from h turn s w
  pub alike : (h g : Handler) (turn : ℕ → Act (After ℕ)) (s : ℕ) (w : World) → Each (AnswersAlike h g) (calls_from h turn s w)
      → SameRun (run_from h turn s w) (run_from g turn s w)

abbrev pub ActivationsDependOnTheirCalls : Type 0
ActivationsDependOnTheirCalls = (entry : List Interval → Act ℕ) (turn : ℕ → ℕ → Act (After ℕ)) (start : ℕ → ℕ) → DependsOnItsCalls (activation entry turn start)

abbrev pub CallsInOrder : Type 0
CallsInOrder = (h : Handler) (a : Act ℕ) (f : ℕ → Act ℕ) (w : World) (go : ℕ → World → List Call) → calls h (and_then a f) w go ≡ calls h a w (λ x v. calls h (f x) v go)

-- What an activation does under a handler of its calls.
use Rattle.std.specs.Prelude.{◌≡◌, List}
use Rattle.run_model.specs.Storage.{Interval}
use Rattle.run_model.specs.Acts.{World, Outcome, then_do, Act, Answer, Handler, play}
use Rattle.run_model.specs.Turns.{After, run_from}
use Rattle.run_calls.specs.Calls.{Call, calls, calls_from, Each}
use Rattle.run_calls.specs.Same.{SameRun, AnswersSame, AnswersAlike}

-- its run and its calls, on actual arguments, from a world
pub record Behaviour : Type 0 where
  pub run : Handler → List Interval → World → Outcome Answer
  pub calls : Handler → List Interval → World → List Call

-- What is done at the entry is no step. What it ends with stays for all turns, as the bounds of arrays do.
abbrev pub activation : {E S : Type 0} → (entry : List Interval → Act E) → (turn : E → S → Act (After S)) → (start : E → S) → Behaviour
activation entry turn start = record {
  run = λ h ds w. then_do (play h (entry ds) w) (λ e w1. run_from h (turn e) (start e) w1);
  calls = λ h ds w. calls h (entry ds) w (λ e w1. calls_from h (turn e) (start e) w1);
}

-- A behaviour depends on its handler at its own calls alone.
pub record DependsOnItsCalls (b : Behaviour) : Type 0 where
  pub same_run : (h g : Handler) (ds : List Interval) (w : World) → Each (AnswersSame h g) (b.calls h ds w) → b.run g ds w ≡ b.run h ds w
  pub same_calls : (h g : Handler) (ds : List Interval) (w : World) → Each (AnswersSame h g) (b.calls h ds w) → b.calls g ds w ≡ b.calls h ds w
  pub alike : (h g : Handler) (ds : List Interval) (w : World) → Each (AnswersAlike h g) (b.calls h ds w) → SameRun (b.run h ds w) (b.run g ds w)

-- Runs whose sink gets what they say as it is said. What a state has printed and its sink hasn't got yet is the output of its world.
use Rattle.std.specs.Prelude.{◌≡◌, ℕ, List, Option, Result, Ok, Err, MatchResult, Bool, true, false}
use Rattle.std.specs.Io.KnownBytes.{Appends}
use Rattle.run_model.specs.Acts as acts
use Rattle.run_model.specs.Acts.{Reason, World, Outcome, Fine}
use Rattle.run_model.specs.Runs.{Begins}
use Rattle.interp_steps.specs.declared.stop.Stop.{Stop as StopReason}
use Rattle.interp_steps.specs.declared.stop.Stop.TheVariants.{Spent, Ended, Undefined, Stuck, OutOfMemory}
use Rattle.interp_calls.specs.declared.halt.Halt.{Halt}
use Rattle.interp_calls.specs.declared.halt.Halt.TheVariants.{Stop, WriteFault}
use Rattle.interp_calls.specs.Behind.{behind, said_in}

-- the run stopped for a reason, or it was broken off: memory was wanting, or the sink failed
abbrev pub Halted : Halt → (Reason → Type 0) → (broken : Type 0) → Type 0
Halted (Stop Spent) P broken = P acts.Spent
Halted (Stop (Ended status)) P broken = P (acts.Ended status)
Halted (Stop (Undefined cause)) P broken = P (acts.Undefined cause)
Halted (Stop Stuck) P broken = P acts.Stuck
Halted (Stop OutOfMemory) P broken = broken
Halted WriteFault P broken = broken

-- the run goes on, or it stopped for a reason: nothing broke it off
abbrev pub IsWhole : {T : Type 0} → Result T Halt → Type 0
IsWhole (Ok x) = Unit {0}
IsWhole (Err e) = Halted e (λ reason. Unit {0}) ⊥

abbrev pub is_broken : Halt → Bool
is_broken (Stop OutOfMemory) = true
is_broken WriteFault = true
is_broken _ = false

-- a result with its reason to stop as one to halt
abbrev pub halting : {T : Type 0} → Result T StopReason → Result T Halt
halting (Ok x) = Ok x
halting (Err stop) = Err (Stop stop)

-- a run that does nothing
abbrev pub nothing : World → Outcome (Unit {0})
nothing w = Fine tt w

-- Since `start` the sink got `sent`. Behind it the run goes on from this world, or stopped there; broken off, it had sent a front.
pub record Reaches {T A : Type 0} (r : Result T Halt) (onward : T → World → Outcome A) (start now : Option (List ℕ)) (w : World) (o : Outcome A) : Type 0 where
  pub sent : List ℕ
  pub appended : Appends start now sent
  pub arrives : MatchResult r (λ x. o ≡ onward x (behind sent w)) (λ e. Halted e (λ reason. o ≡ acts.Stop reason (behind sent w)) (Begins sent (said_in o)))

-- a run from one world to another, while the sink got more
abbrev pub Sends : {T A : Type 0} → Result T Halt → (T → World → Outcome A) → (old new : World) → (before after : Option (List ℕ)) → (World → Outcome A) → Type 0
Sends r onward old new before after run = (start : Option (List ℕ)) (sent : List ℕ) → Appends start before sent → Reaches r onward start after new (run (behind sent old))

-- When one machine of turns does what another does.
use Rattle.std.specs.Prelude.{◌≡◌, ℕ, zero, suc, List}
use Rattle.run_model.specs.Acts.{Act, Done, and_then, Outcome}
use Rattle.run_model.specs.Turns.{After}
use Rattle.run_calls.specs.Calls.{Call}
use Rattle.run_calls.specs.Same.{SameRun, IfDefined}
use Rattle.run_alike.specs.Like.{Like, LikeAfter, IsSilent}

-- The second run ends as the first, and makes the very same calls where that is defined.
pub record Alike {A : Type 0} (o p : Outcome A) (cs ds : List Call) : Type 0 where
  pub run : SameRun o p
  pub calls : IfDefined o (cs ≡ ds)

-- So many turns of the second machine from its state do what those of the first do.
abbrev pub AlikeFor : {S T : Type 0} → (S → Act (After S)) → (T → Act (After T)) → (turns : ℕ) → S → T → Type 0
AlikeFor turn other zero s t = Unit {0}
AlikeFor turn other (suc n) s t = Like (LikeAfter (AlikeFor turn other n)) (turn s) (other t)

-- what an entry gave, with what the first turn behind it leads to
abbrev pub with_first : {E S : Type 0} → Act E → (E → S → Act (After S)) → (E → S) → Act (E × After S)
with_first entry turn start = and_then entry (λ e. and_then (turn e (start e)) (λ a. Done (e, a)))

abbrev pub GoesOnAlike : {E S T : Type 0} → (E → S → Act (After S)) → (T → Act (After T)) → ℕ → E × After S → After T → Type 0
GoesOnAlike turn other n x b = LikeAfter (AlikeFor (turn x.0) other n) x.1 b

-- An entry that reads at most is no step of the first machine. The second does its work in its first turn.
pub record EntersAlike {E S T : Type 0} (entry : Act E) (turn : E → S → Act (After S)) (start : E → S) (other : T → Act (After T)) (t : T) : Type 0 where
  pub silent : IsSilent entry
  pub first : (n : ℕ) → Like (GoesOnAlike turn other n) (with_first entry turn start) (other t)

-- Turn after turn. Each turn begins a step, if one is left, and plays a tree of acts.
use Rattle.std.specs.Prelude.{ℕ, zero, suc}
use Rattle.run_model.specs.Acts.{World, Spent, Outcome, Fine, Stop, then_do, Answer, Handler, Act, play}

-- what a turn leads to: another state, or the answer to the caller
pub data After (S : Type 0) : Type 0 where
  Again : S → After S
  Result : Answer → After S

-- no step begins where none is left
abbrev pub ticked : {A : Type 0} → ℕ → World → (World → Outcome A) → Outcome A
ticked zero w go = Stop Spent w
ticked (suc n) w go = go (record w { left = n })

abbrev pub follow : {S : Type 0} → After S → World → (S → World → Outcome Answer) → Outcome Answer
follow (Again s) w go = go s w
follow (Result r) w go = Fine r w

-- So many turns at most.
abbrev pub turns : {S : Type 0} → Handler → (S → Act (After S)) → ℕ → S → World → Outcome Answer
turns h turn zero s w = Stop Spent w
turns h turn (suc n) s w = ticked w.left w (λ w1. then_do (play h (turn s) w1) (λ a w2. follow a w2 (turns h turn n)))

-- As long as steps are left: a turn takes one, so the turns never run out first.
abbrev pub run_from : {S : Type 0} → Handler → (S → Act (After S)) → S → World → Outcome Answer
run_from h turn s w = turns h turn (suc w.left) s w

-- Runs behind what was said before them.
use Rattle.std.specs.Prelude.{◌≡◌, ◌++◌, ℕ, List}
use Rattle.run_model.specs.Storage.{Interval}
use Rattle.run_model.specs.Acts.{World, Outcome, Fine, Stop, Handler}

-- the world in which these bytes were said before
abbrev pub behind : List ℕ → World → World
behind said w = record w { out = said ++ w.out }

abbrev pub outcome_behind : {A : Type 0} → List ℕ → Outcome A → Outcome A
outcome_behind said (Fine x w) = Fine x (behind said w)
outcome_behind said (Stop r w) = Stop r (behind said w)

-- what was said when a run came to this
abbrev pub said_in : {A : Type 0} → Outcome A → List ℕ
said_in (Fine x w) = w.out
said_in (Stop r w) = w.out

-- a run says its own behind what was said before
abbrev pub Appending : {A : Type 0} → (World → Outcome A) → Type 0
Appending run = (said : List ℕ) (w : World) → run (behind said w) ≡ outcome_behind said (run w)

-- so does whatever is called
abbrev pub AllAppend : Handler → Type 0
AllAppend h = (site : ℕ) (actuals : List Interval) → Appending (h site actuals)

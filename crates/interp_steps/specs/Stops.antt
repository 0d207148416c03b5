-- Why a run stops, and what an answer says of the acts that it comes from.
use Rattle.std.specs.Prelude.{◌≡◌, Result, MatchResult}
use Rattle.run_model.specs.Acts as acts
use Rattle.run_model.specs.Acts.{Reason, Act, Done, Fail, World, Outcome, Fine}
use Rattle.interp_steps.specs.declared.stop.Stop.{Stop}
use Rattle.interp_steps.specs.declared.stop.Stop.TheVariants.{Spent, Ended, Undefined, Stuck, OutOfMemory}

-- Nothing is said where memory is wanting.
abbrev pub Stopped : Stop → (Reason → Type 0) → Type 0
Stopped Spent P = P acts.Spent
Stopped (Ended status) P = P (acts.Ended status)
Stopped (Undefined cause) P = P (acts.Undefined cause)
Stopped Stuck P = P acts.Stuck
Stopped OutOfMemory P = Unit {0}

-- the acts, which leave the world alone, are done with this result, or fail for this reason
abbrev pub Gives : {T A : Type 0} → Result T Stop → (T → A) → Act A → Type 0
Gives r view act = MatchResult r (λ x. act ≡ Done (view x)) (λ e. Stopped e (λ reason. act ≡ Fail reason))

-- a play ends well with this result in this world, or stops there for this reason
abbrev pub Ends : {T A : Type 0} → Result T Stop → (T → A) → World → Outcome A → Type 0
Ends r view w outcome = MatchResult r (λ x. outcome ≡ Fine (view x) w) (λ e. Stopped e (λ reason. outcome ≡ acts.Stop reason w))

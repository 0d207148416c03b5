-- When a run ends as another does, as far as that one is defined.
use Rattle.std.specs.Prelude.{◌≡◌}
use Rattle.run_model.specs.Acts.{World, Reason, Spent, Ended, Undefined, Stuck, Outcome, Fine, Stop, Handler}
use Rattle.run_calls.specs.Calls.{Call}

-- What shows from outside where a run stops: what was printed, the input that is left, and the steps.
pub record LooksLike (v v' : World) : Type 0 where
  pub out : v.out ≡ v'.out
  pub input : v.input ≡ v'.input
  pub left : v.left ≡ v'.left

pub record StopsAlike {A : Type 0} (reason : Reason) (v : World) (o : Outcome A) : Type 0 where
  pub world : World
  pub is : o ≡ Stop reason world
  pub alike : LooksLike v world

-- The second run ends as the first. Where that returns, all of the storage is the same; where it is undefined, the second is free.
abbrev pub SameRun : {A : Type 0} → Outcome A → Outcome A → Type 0
SameRun (Fine x v) o = o ≡ Fine x v
SameRun (Stop Spent v) o = StopsAlike Spent v o
SameRun (Stop (Ended k) v) o = StopsAlike (Ended k) v o
SameRun (Stop (Undefined c) v) o = Unit {0}
SameRun (Stop Stuck v) o = Unit {0}

-- nothing is asked where the run is undefined
abbrev pub IfDefined : {A : Type 0} → Outcome A → Type 0 → Type 0
IfDefined (Fine x v) P = P
IfDefined (Stop Spent v) P = P
IfDefined (Stop (Ended k) v) P = P
IfDefined (Stop (Undefined c) v) P = Unit {0}
IfDefined (Stop Stuck v) P = Unit {0}

-- at this call the second handler answers the same
abbrev pub AnswersSame : Handler → Handler → Call → Type 0
AnswersSame h g c = g c.site c.actuals c.world ≡ h c.site c.actuals c.world

-- at this call the second handler's answer is that of the first as far as it is defined
abbrev pub AnswersAlike : Handler → Handler → Call → Type 0
AnswersAlike h g c = SameRun (h c.site c.actuals c.world) (g c.site c.actuals c.world)

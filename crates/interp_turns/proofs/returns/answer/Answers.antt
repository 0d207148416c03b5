use Rattle.std.proofs.Common.{refl}
use Rattle.interp_turns.proofs.returns.answer.Goals as goal

pub returns-in-None : goal.returns-in-None
returns-in-None c = λ h. rw c.in-None.is refl

pub returns-in-Some : goal.returns-in-Some
returns-in-Some c = λ h. rw c.in-Some.is (c.value_of.ensures h)

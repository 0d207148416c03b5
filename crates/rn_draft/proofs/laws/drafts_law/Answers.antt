use Rattle.rn_draft.proofs.Putting.{drafted_one}
use Rattle.rn_draft.proofs.Gathered.{no_program}
use Rattle.rn_draft.proofs.laws.drafts_law.Goals as goal

pub returns : goal.returns
returns c = record { one = drafted_one; none = no_program }

use Rattle.rn_draft.proofs.Putting.{ended}
use Rattle.rn_draft.proofs.drafts.drafted.Goals as goal

pub returns-clause-ended : goal.returns-clause-ended
returns-clause-ended c = ended c.args.units c.in_ok-back.back c.in_ok-draft.draft.entries c.units_of.result (c.in_ok-back.ensures {u = tt}) (c.in_ok-draft.ensures {u = tt}) c.units_of.ensures

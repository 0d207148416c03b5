use Rattle.form_kinds.proofs.KindTests.{skips_none}
use Rattle.form_kinds.proofs.statement_kinds.behind_comma.Goals as goal

pub returns-in-None : goal.returns-in-None
returns-in-None c = skips_none (rw c.as_slice.ensures at (c.in-None.ensures {u = tt}))

use Rattle.form_kinds.proofs.KindTests.{no_if}
use Rattle.form_kinds.proofs.statement_kinds.if_parts.Goals as goal

pub returns-in_default : goal.returns-in_default
returns-in_default c = no_if (rw c.as_slice.ensures at (c.in_default.ensures {u = tt}))

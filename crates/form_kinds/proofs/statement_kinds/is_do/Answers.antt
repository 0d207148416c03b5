use Rattle.form_kinds.proofs.KindTests.{no_do_head}
use Rattle.form_kinds.proofs.statement_kinds.is_do.Goals as goal

pub returns-in_default : goal.returns-in_default
returns-in_default c = no_do_head (c.in_default.ensures {u = tt})

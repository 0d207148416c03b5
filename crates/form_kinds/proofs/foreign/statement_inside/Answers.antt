use Rattle.std.proofs.Common.{arith}
use Rattle.form_kinds.proofs.ForeignTexts.{none_inside, none_cut}
use Rattle.form_kinds.proofs.foreign.statement_inside.Goals as goal

pub returns-then-ne : goal.returns-then-ne
returns-then-ne c = none_inside c.statement_kind.ensures.kind (λ e. grind (arith, e))

pub returns-in-None : goal.returns-in-None
returns-in-None c = none_cut (c.in-None.ensures {u = tt})

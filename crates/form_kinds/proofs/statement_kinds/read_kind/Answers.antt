use Rattle.form_kinds.proofs.KindTests.{kind_in, kind_open}
use Rattle.form_kinds.proofs.statement_kinds.read_kind.Goals as goal

pub returns-in-Some-first_outside : goal.returns-in-Some-first_outside
returns-in-Some-first_outside c = kind_in (rw c.as_slice.ensures at (c.in-Some.ensures {u = tt})) (c.in-Some-first_outside.ensures {u = tt}) c.kind_behind.ensures

pub returns-in-None : goal.returns-in-None
returns-in-None c = kind_open (rw c.as_slice.ensures at (c.in-Some.ensures {u = tt})) (c.in-None.ensures {u = tt})

use Rattle.f77_forms.proofs.FormTables.{never_cut, never_deep, never_inner, found_conditional}
use Rattle.f77_forms.proofs.form.logical_if.Goals as goal

pub returns-in_default : goal.returns-in_default
returns-in_default c = never_cut (c.in_default.ensures {u = tt})

pub returns-then-too_deep : goal.returns-then-too_deep
returns-then-too_deep c = never_deep (rw c.if-too_deep.true at (c.in_ok-too_deep.ensures {u = tt}))

pub returns-in_default-2 : goal.returns-in_default-2
returns-in_default-2 c = never_inner (c.in-Some.ensures {u = tt}) (rw c.in_default-2.is at (c.in_ok-inner.ensures {u = tt}))

pub returns : goal.returns
returns c = found_conditional c.conditional.result (rw c.if-too_deep.false at (c.in_ok-too_deep.ensures {u = tt})) (c.in-Some.ensures {u = tt}) (rw c.in-Some-2.is at (c.in_ok-inner.ensures {u = tt})) c.conditional.ensures

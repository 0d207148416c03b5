use Rattle.form_execution.proofs.Conditions.{never_do_head, never_do_range, sole_do}
use Rattle.form_execution.proofs.control.do_form.Goals as goal

pub returns-in_default-do_head : goal.returns-in_default-do_head
returns-in_default-do_head c = never_do_head (c.in-Some.ensures {u = tt}) (c.in_default-do_head.ensures {u = tt})

pub returns-in_default-2 : goal.returns-in_default-2
returns-in_default-2 c = never_do_range (c.in-Some.ensures {u = tt}) (rw c.in_default-2.is at (c.in_ok-from.ensures {u = tt}))

pub returns : goal.returns
returns c = rw (c.from_list-name.ensures, c.in_ok-from_slice.ensures {u = tt}) (sole_do (c.in-Some.ensures {u = tt}) (c.in-Some-do_head.ensures {u = tt}) (rw c.in-Some-2.is at (c.in_ok-from.ensures {u = tt})))

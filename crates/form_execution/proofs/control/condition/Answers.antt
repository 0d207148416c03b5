use Rattle.form_execution.proofs.Conditions.{condition_front, no_condition_open, no_condition_inside, no_condition_close}
use Rattle.form_execution.proofs.control.condition.Goals as goal

pub returns-in_default-clause-condition : goal.returns-in_default-clause-condition
returns-in_default-clause-condition c = no_condition_open (c.in_default.ensures {u = tt}).next

pub returns-in_default-2-clause-condition : goal.returns-in_default-2-clause-condition
returns-in_default-2-clause-condition c = no_condition_inside (c.in-Some.ensures {u = tt}).next (rw c.in_default-2.is at (c.in_ok-test.ensures {u = tt}).longest)

pub returns-in_default-eat-clause-condition : goal.returns-in_default-eat-clause-condition
returns-in_default-eat-clause-condition c = no_condition_close (c.in-Some.ensures {u = tt}).next (rw c.in-Some-2.is at (c.in_ok-test.ensures {u = tt}).longest) (c.in_default-eat.ensures {u = tt}).next

pub returns-clause-condition : goal.returns-clause-condition
returns-clause-condition c = condition_front (c.in-Some.ensures {u = tt}).next (rw c.in-Some-2.is at (c.in_ok-test.ensures {u = tt}).longest) (c.in-Some-eat.ensures {u = tt}).next

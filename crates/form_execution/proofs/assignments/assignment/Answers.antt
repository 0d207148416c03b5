use Rattle.form_execution.proofs.InputsOutputs.{never_target, never_equal, never_assigned, sole_assignment}
use Rattle.form_execution.proofs.assignments.assignment.Goals as goal

pub returns-in_default : goal.returns-in_default
returns-in_default c = never_target (rw c.in_default.is at (c.in_ok-target.ensures {u = tt}).part)

pub returns-in_default-eat : goal.returns-in_default-eat
returns-in_default-eat c = never_equal (rw c.in-Some.is at (c.in_ok-target.ensures {u = tt}).part) (c.in_default-eat.ensures {u = tt}).next

pub returns-in_default-2 : goal.returns-in_default-2
returns-in_default-2 c = never_assigned (rw c.in-Some.is at (c.in_ok-target.ensures {u = tt}).part) (c.in-Some-eat.ensures {u = tt}).next (rw c.in_default-2.is at (c.in_ok-value.ensures {u = tt}))

pub returns : goal.returns
returns c = sole_assignment (rw c.in-Some.is at (c.in_ok-target.ensures {u = tt}).part) (c.in-Some-eat.ensures {u = tt}).next (rw c.in-Some-2.is at (c.in_ok-value.ensures {u = tt}))

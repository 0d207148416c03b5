use Rattle.form_execution.proofs.InputsOutputs.{never_read_star, never_read_comma, never_targets, sole_read}
use Rattle.form_execution.proofs.input_output.read.Goals as goal

pub returns-in_default : goal.returns-in_default
returns-in_default c = never_read_star (c.in_default.ensures {u = tt}).next

pub returns-in_default-eat : goal.returns-in_default-eat
returns-in_default-eat c = never_read_comma (c.in-Some.ensures {u = tt}).next (c.in_default-eat.ensures {u = tt}).next

pub returns-in_default-2 : goal.returns-in_default-2
returns-in_default-2 c = never_targets (c.in-Some.ensures {u = tt}).next (c.in-Some-eat.ensures {u = tt}).next (rw c.in_default-2.is at (c.in_ok-targets.ensures {u = tt}))

pub returns : goal.returns
returns c = sole_read (c.in-Some.ensures {u = tt}).next (c.in-Some-eat.ensures {u = tt}).next (rw c.in-Some-2.is at (c.in_ok-targets.ensures {u = tt}))

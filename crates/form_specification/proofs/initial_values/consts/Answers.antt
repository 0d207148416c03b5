use Rattle.form_specification.proofs.DataParts.{are_consts, no_first_slash, no_consts, no_last_slash}
use Rattle.form_specification.proofs.initial_values.consts.Goals as goal

pub returns-in_default-clause-consts : goal.returns-in_default-clause-consts
returns-in_default-clause-consts c = no_first_slash (c.in_default.ensures {u = tt}).next

pub returns-in_default-2-clause-consts : goal.returns-in_default-2-clause-consts
returns-in_default-2-clause-consts c = no_consts (c.in-Some.ensures {u = tt}).next (rw c.in_default-2.is at (c.in_ok-all.ensures {u = tt}).list)

pub returns-in_default-eat-clause-consts : goal.returns-in_default-eat-clause-consts
returns-in_default-eat-clause-consts c = no_last_slash (c.in-Some.ensures {u = tt}).next (rw c.in-Some-2.is at (c.in_ok-all.ensures {u = tt}).list) (c.in_default-eat.ensures {u = tt}).next

pub returns-clause-consts : goal.returns-clause-consts
returns-clause-consts c = are_consts (c.in-Some.ensures {u = tt}).next (rw c.in-Some-2.is at (c.in_ok-all.ensures {u = tt}).list) (c.in-Some-eat.ensures {u = tt}).next

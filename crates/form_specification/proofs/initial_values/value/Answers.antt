use Rattle.std.proofs.Common.{rules, SFits, w64}
use Rattle.std.proofs.lemmas.Int.{to_z-of_z}
use Rattle.form_specification.proofs.DataParts.{value_number, value_yes, value_no, value_name, no_value}
use Rattle.form_specification.proofs.initial_values.value.Goals as goal

pub returns-in-Some-clause-value : goal.returns-in-Some-clause-value
returns-in-Some-clause-value c = let fits : SFits w64 c.in-Some.n = search rules in rw (to_z-of_z w64 c.in-Some.n fits) (value_number (c.in-Some.ensures {u = tt}).signed)

pub returns-in-Some-eat-clause-value : goal.returns-in-Some-eat-clause-value
returns-in-Some-eat-clause-value c = value_yes (c.in-Some-eat.ensures {u = tt}).next

pub returns-in-Some-eat-2-clause-value : goal.returns-in-Some-eat-2-clause-value
returns-in-Some-eat-2-clause-value c = value_no (c.in-Some-eat-2.ensures {u = tt}).next

pub returns-in_default-2-clause-value : goal.returns-in_default-2-clause-value
returns-in_default-2-clause-value c = no_value (c.in_default.ensures {u = tt}).signed (c.in_default-eat.ensures {u = tt}).next (c.in_default-eat-2.ensures {u = tt}).next (rw c.in_default-2.is at (c.in_ok-name.ensures {u = tt}).name)

pub returns-clause-value : goal.returns-clause-value
returns-clause-value c = value_name (rw c.in-Some-2.is at (c.in_ok-name.ensures {u = tt}).name)

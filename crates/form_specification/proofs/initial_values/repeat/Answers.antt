use Rattle.form_specification.proofs.DataParts.{no_star_behind}
use Rattle.form_specification.proofs.initial_values.repeat.Goals as goal

pub returns-in_default-eat-clause-repeat : goal.returns-in_default-eat-clause-repeat
returns-in_default-eat-clause-repeat c = no_star_behind (rw c.in-Some.is at (c.in_ok-times.ensures {u = tt}).times) (c.in_default-eat.ensures {u = tt}).next

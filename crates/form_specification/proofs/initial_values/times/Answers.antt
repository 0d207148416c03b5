use Rattle.std.proofs.Common.{rules, SFits, w64}
use Rattle.std.proofs.lemmas.Int.{to_z-of_z}
use Rattle.form_specification.proofs.DataParts.{times_count, times_name, no_times}
use Rattle.form_specification.proofs.initial_values.times.Goals as goal

pub returns-then-n-gt0-clause-times : goal.returns-then-n-gt0-clause-times
returns-then-n-gt0-clause-times c = let fits : SFits w64 c.in-Some.n = search rules in let more = rw (to_z-of_z w64 c.in-Some.n fits) at c.if-n-gt0.true in rw (to_z-of_z w64 c.in-Some.n fits) (times_count (c.in-Some.ensures {u = tt}).integer (search rules))

pub returns-in_default-2-clause-times : goal.returns-in_default-2-clause-times
returns-in_default-2-clause-times c = no_times (c.in_default.ensures {u = tt}).integer (rw c.in_default-2.is at (c.in_ok-name.ensures {u = tt}).name)

pub returns-clause-times : goal.returns-clause-times
returns-clause-times c = times_name (rw c.in-Some-2.is at (c.in_ok-name.ensures {u = tt}).name)

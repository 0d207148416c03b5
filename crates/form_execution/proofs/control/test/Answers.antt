use Rattle.std.proofs.Common.{sym, ◌∙◌}
use Rattle.form_execution.proofs.Conditions.{sole_test, never_test, never_then}
use Rattle.form_execution.proofs.control.test.Goals as goal

pub returns-in_default : goal.returns-in_default
returns-in_default c = never_test (rw c.in_default.is at (c.in_ok-test.ensures {u = tt}).condition)

pub returns-then-is_then : goal.returns-then-is_then
returns-then-is_then c = sole_test (rw c.in-Some.is at (c.in_ok-test.ensures {u = tt}).condition) (sym c.is_then.ensures ∙ c.if-is_then.true)

pub returns-else-is_then : goal.returns-else-is_then
returns-else-is_then c = never_then (rw c.in-Some.is at (c.in_ok-test.ensures {u = tt}).condition) (sym c.is_then.ensures ∙ c.if-is_then.false)

use Rattle.std.proofs.Common.{sym, ◌∙◌}
use Rattle.f77_forms.proofs.FormTables.{sole_action, never_action, never_plain_action}
use Rattle.f77_forms.proofs.form.action.Goals as goal

pub returns-in_default : goal.returns-in_default
returns-in_default c = never_plain_action (rw c.in_default.is at (c.in_ok-form.ensures {u = tt}))

pub returns-then-is_action : goal.returns-then-is_action
returns-then-is_action c = sole_action (rw c.in-Some.is at (c.in_ok-form.ensures {u = tt})) (sym c.is_action.ensures ∙ c.if-is_action.true)

pub returns-else-is_action : goal.returns-else-is_action
returns-else-is_action c = never_action (rw c.in-Some.is at (c.in_ok-form.ensures {u = tt})) (sym c.is_action.ensures ∙ c.if-is_action.false)

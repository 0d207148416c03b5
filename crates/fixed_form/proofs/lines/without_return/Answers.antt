use Rattle.fixed_form.proofs.Splits.{stripped_return, stripped_kept, stripped_empty}
use Rattle.fixed_form.proofs.lines.without_return.Goals as goal

pub returns-then-last-eq13 : goal.returns-then-last-eq13
returns-then-last-eq13 c = stripped_return _ _ _ (c.in-Some.ensures {u = tt}).cases.0 c.if-last-eq13.true

pub returns-else-last-eq13 : goal.returns-else-last-eq13
returns-else-last-eq13 c = stripped_kept _ c.in-Some.front.now c.in-Some.last.now (c.in-Some.ensures {u = tt}).cases.0 c.if-last-eq13.false

pub returns-in_default : goal.returns-in_default
returns-in_default c = stripped_empty _ (c.in_default.ensures {u = tt}).cases

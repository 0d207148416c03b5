use Rattle.form_parts.proofs.NextToken.{nil_of, emptied, filled}
use Rattle.form_execution.proofs.InputsOutputs.{never_star, sole_alone, never_print_comma, never_items, sole_listed}
use Rattle.form_execution.proofs.input_output.print.Goals as goal

pub returns-in_default : goal.returns-in_default
returns-in_default c = never_star (c.in_default.ensures {u = tt}).next

pub returns-then-is_empty : goal.returns-then-is_empty
returns-then-is_empty c = rw c.new.ensures (sole_alone (c.in-Some.ensures {u = tt}).next (nil_of c.in-Some.behind.now (emptied c.in-Some.behind.now c.is_empty.ensures c.if-is_empty.true)))

pub returns-in_default-eat : goal.returns-in_default-eat
returns-in_default-eat c = never_print_comma (c.in-Some.ensures {u = tt}).next (filled c.in-Some.behind.now c.is_empty.ensures c.if-is_empty.false) (c.in_default-eat.ensures {u = tt}).next

pub returns-in_default-2 : goal.returns-in_default-2
returns-in_default-2 c = never_items (c.in-Some.ensures {u = tt}).next (c.in-Some-eat.ensures {u = tt}).next (rw c.in_default-2.is at (c.in_ok-items.ensures {u = tt}))

pub returns : goal.returns
returns c = sole_listed (c.in-Some.ensures {u = tt}).next (c.in-Some-eat.ensures {u = tt}).next (rw c.in-Some-2.is at (c.in_ok-items.ensures {u = tt}))

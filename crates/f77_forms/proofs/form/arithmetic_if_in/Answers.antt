use Rattle.form_execution.specs.Transfer.{IsArithmeticIf}
use Rattle.form_parts.proofs.Answered.{never_tokens}
use Rattle.f77_forms.proofs.FormTables.{never_behind, never_if, found_behind}
use Rattle.f77_forms.proofs.form.arithmetic_if_in.Goals as goal

pub returns-in_default : goal.returns-in_default
returns-in_default c = never_if IsArithmeticIf (rw c.as_slice.ensures at (c.in_default.ensures {u = tt}))

pub returns-in_default-2 : goal.returns-in_default-2
returns-in_default-2 c = never_behind IsArithmeticIf (rw c.as_slice.ensures at (c.in-Some.ensures {u = tt})) (never_tokens (rw c.in_default-2.is at (c.in_ok-tokens.ensures {u = tt})))

pub returns : goal.returns
returns c = found_behind IsArithmeticIf c.arithmetic_if.result (rw c.as_slice.ensures at (c.in-Some.ensures {u = tt})) (rw c.in-Some-2.is at (c.in_ok-tokens.ensures {u = tt})) (rw c.as_slice-2.ensures at c.arithmetic_if.ensures)

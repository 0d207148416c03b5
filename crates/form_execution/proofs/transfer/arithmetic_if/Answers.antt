use Rattle.std.proofs.Common.{sym}
use Rattle.form_execution.proofs.Transfers.{three_at, arithmetic_of, never_value, never_three, never_count}
use Rattle.form_execution.proofs.transfer.arithmetic_if.Goals as goal

pub returns-in_default : goal.returns-in_default
returns-in_default c = never_value (rw c.in_default.is at (c.in_ok-value.ensures {u = tt}).condition)

pub returns-in_default-2 : goal.returns-in_default-2
returns-in_default-2 c = never_three (rw c.in-Some.is at (c.in_ok-value.ensures {u = tt}).condition) (rw c.in_default-2.is at (c.in_ok-labels.ensures {u = tt}))

pub returns-then-labels-ne3 : goal.returns-then-labels-ne3
returns-then-labels-ne3 c = never_count (rw c.in-Some.is at (c.in_ok-value.ensures {u = tt}).condition) (rw (c.in-Some-2.is, sym c.as_slice-labels.ensures) at (c.in_ok-labels.ensures {u = tt})) c.if-labels-ne3.true

pub returns : goal.returns
returns c =
    let three = three_at c.as_slice-labels.result.now c.if-labels-ne3.false in
    arithmetic_of (rw c.in-Some.is at (c.in_ok-value.ensures {u = tt}).condition) (rw (c.in-Some-2.is, sym c.as_slice-labels.ensures) at (c.in_ok-labels.ensures {u = tt})) three

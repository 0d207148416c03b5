use Rattle.std.proofs.Common.{◌+◌, arith, sym}
use Rattle.f77_expr.proofs.DigitValues.{value_none, value_more, value_take}
use Rattle.f77_expr.proofs.fronts.value.Goals as goal

pub loop-b-init : goal.loop-b-init
loop-b-init c = sym value_none

pub returns-in_err-checked_mul : goal.returns-in_err-checked_mul
returns-in_err-checked_mul c =
    let digits = c.args.digits.now in
    let i = c.loop-b.b-index in
    rw c.from_residual.ensures (omega (arith, c.in_err-checked_mul.ensures {u = tt}, c.loop-b.invariant, value_more digits i c.loop-b-test.true, value_take digits (i + 1)))

pub returns-in_err-value : goal.returns-in_err-value
returns-in_err-value c =
    let digits = c.args.digits.now in
    let i = c.loop-b.b-index in
    rw c.from_residual-in_err-value.ensures (omega (arith, c.in_err-value.ensures {u = tt}, c.in_ok-checked_mul.ensures {u = tt}, c.from.ensures, c.saturating_sub.ensures, c.loop-b.invariant, value_more digits i c.loop-b-test.true, value_take digits (i + 1)))

pub loop-b-preserved : goal.loop-b-preserved
loop-b-preserved c =
    let digits = c.args.digits.now in
    let i = c.loop-b.b-index in
    omega (arith, c.in_ok-value.ensures {u = tt}, c.in_ok-checked_mul.ensures {u = tt}, c.from.ensures, c.saturating_sub.ensures, c.loop-b.invariant, value_more digits i c.loop-b-test.true)

use Rattle.std.proofs.Common.{arith, get_or, ap, sym, ◌∙◌}
use Rattle.f77_expr.specs.Spelling.{is_digit, with_digit}
use Rattle.fixed_form.proofs.Labels.{ten, ten_more, ten_none, ten_small}
use Rattle.form_kinds.proofs.Digits.{all_at, value_none, value_more, digit_small}
use Rattle.form_kinds.proofs.labels.label_of.Goals as goal

pub loop-b-init : goal.loop-b-init
loop-b-init c = record { value = value_none; small = omega (arith, ten_none) }

pub with_digit-value-requires-clause-small : goal.with_digit-value-requires-clause-small
with_digit-value-requires-clause-small c = omega (arith, ten_small c.loop-b.b-index (omega (arith, c.loop-b-test.true, c.requires.few)), c.loop-b.invariant.small)

pub with_digit-value-requires-clause-digit : goal.with_digit-value-requires-clause-digit
with_digit-value-requires-clause-digit c = all_at is_digit c.args.digits.now c.loop-b.b-index c.loop-b-test.true c.requires.digits

pub loop-b-preserved : goal.loop-b-preserved
loop-b-preserved c = record {
  value = c.with_digit-value.ensures ∙ (ap (λ n. with_digit n (get_or c.args.digits.now c.loop-b.b-index 0)) c.loop-b.invariant.value ∙ sym (value_more c.args.digits.now c.loop-b.b-index c.loop-b-test.true));
  small =
      let digit = all_at is_digit c.args.digits.now c.loop-b.b-index c.loop-b-test.true c.requires.digits in
      omega (arith, c.with_digit-value.ensures, digit_small c.loop-b.value (get_or c.args.digits.now c.loop-b.b-index 0) (ten c.loop-b.b-index) digit c.loop-b.invariant.small, ten_more c.loop-b.b-index);
}

use Rattle.std.proofs.Common.{arith, get_or}
use Rattle.std.proofs.lemmas.List.Sums.{fold_more}
use Rattle.fixed_form.proofs.Labels.{ten, ten_more, with_digit_small}
use Rattle.fixed_form.proofs.card.value_of.Goals as goal

pub loop-b-preserved : goal.loop-b-preserved
loop-b-preserved c = record {
  value = grind (arith, fold_more);
  small = omega (arith, c.with_digit-value.ensures, with_digit_small c.loop-b.value (get_or c.args.part.now c.loop-b.b-index 0) (ten c.loop-b.b-index) c.loop-b.invariant.small, ten_more c.loop-b.b-index);
}

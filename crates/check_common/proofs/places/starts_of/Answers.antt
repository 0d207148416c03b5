use Rattle.std.proofs.Common.{◌∙◌}
use Rattle.f77_store.specs.Areas.{size_of}
use Rattle.check_common.proofs.Totals.{totals_more, starts_more, small_more}
use Rattle.check_common.proofs.places.starts_of.Goals as goal

pub loop-member-preserved : goal.loop-member-preserved
loop-member-preserved c = record {
  starts = starts_more (size_of c.args.shapes.now) c.as_slice-member-items.result.now c.loop-member.member-index c.member-item.result c.loop-member.starts c.put_start.new.starts _ c.so_far-from.result c.loop-member-test.true c.member-item.is (c.so_far-from.ensures ∙ c.loop-member.invariant.totals c.member-item.result.block) (c.in_ok-put_start.ensures {u = tt}) c.loop-member.invariant.starts;
  totals = totals_more (size_of c.args.shapes.now) c.as_slice-member-items.result.now c.loop-member.member-index c.member-item.result c.loop-member.totals c.put_total.new.totals c.so_far-from.result c.size_of.result c.behind-total.result c.loop-member-test.true c.member-item.is c.loop-member.invariant.totals c.so_far-from.ensures c.size_of.ensures c.behind-total.ensures.sum (c.in_ok-put_total.ensures {u = tt});
  small = small_more c.loop-member.member-index c.so_far-from.result c.behind-total.result c.loop-member.totals c.put_total.new.totals c.member-item.result.block c.loop-member.invariant.small c.so_far-from.ensures c.behind-total.ensures.most (c.in_ok-put_total.ensures {u = tt});
}

use Rattle.std.proofs.Common.{◌∙◌}
use Rattle.f77_store.specs.Areas.{size_of}
use Rattle.f77_store.proofs.Totals.{totals_more, places_more}
use Rattle.f77_store.proofs.areas.lay_out.Goals as goal

pub loop-member-preserved : goal.loop-member-preserved
loop-member-preserved c = record {
  places = places_more (size_of c.args.shapes.now) c.as_slice-member-items.result.now c.loop-member.member-index c.member-item.result c.loop-member.places c.put_place.new.places _ c.so_far-from.result c.loop-member-test.true c.member-item.is (c.so_far-from.ensures ∙ c.loop-member.invariant.totals c.member-item.result.block) (c.in_ok-put_place.ensures {u = tt}) c.loop-member.invariant.places;
  totals = totals_more (size_of c.args.shapes.now) c.as_slice-member-items.result.now c.loop-member.member-index c.member-item.result c.loop-member.totals c.put_total.new.totals c.so_far-from.result c.size_of.result c.saturating_add-total.result c.loop-member-test.true c.member-item.is c.loop-member.invariant.totals c.so_far-from.ensures c.size_of.ensures c.saturating_add-total.ensures (c.in_ok-put_total.ensures {u = tt});
}

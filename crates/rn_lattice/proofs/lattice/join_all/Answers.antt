use Rattle.std.proofs.Common.{◌≡◌, arith, inl, inr}
use Rattle.std.proofs.lemmas.List.{get_or_read}
use Rattle.std.proofs.lemmas.Bool.{cases_lt}
use Rattle.rn_lattice.proofs.lattice.join_all.Goals as goal

-- the next value joins those so far
pub loop-value-preserved : goal.loop-value-preserved
loop-value-preserved g c =
    let order = g.met.L.Lattice.order in
    let so_far = c.loop-value.invariant in
    let joined = c.in_ok-join.ensures in
    let at_item = λ (d : _). get_or_read c.args.values.now c.loop-value.value-index c.value-item.result c.loop-value-test.true c.value-item.is d in
    record {
      in_range = omega arith;
      value = joined.joins.value;
      above = λ k d below. elim (cases_lt k c.loop-value.value-index) [
        | inl before ↦
            let old = so_far.above k d before in
            (old.0, order.transitive _ _ _ old.0 so_far.value joined.joins.value old.1 joined.joins.above_first)
        | inr here ↦
            let same : k ≡ c.loop-value.value-index = omega arith in
            rw (same, ← at_item d) (joined.second, joined.joins.above_second)
      ];
      least = λ w is_value all. joined.joins.least w is_value (so_far.least w is_value all) (rw (at_item c.value-item.result) (all c.loop-value.value-index c.value-item.result c.loop-value-test.true));
    }

use Rattle.std.proofs.Common.{ap, ◌∙◌}
use Rattle.interp_data.specs.Meant.{meant}
use Rattle.interp_lower.specs.Pieces.{bounds_steps}
use Rattle.interp_lower.proofs.Dimensions.{bounds_more, bounds_end}
use Rattle.interp_lower.proofs.arrays.bounds_steps.Goals as goal

pub loop-bound-preserved : goal.loop-bound-preserved
loop-bound-preserved c =
    bounds_more (meant c.args.names.now) c.as_slice-bound-items.result.now c.loop-bound.bound-index c.bound-item.result c.loop-bound.steps c.push_bound.new.code _ c.loop-bound-test.true c.bound-item.is
    (c.in_ok-push_bound.ensures {u = tt}) c.loop-bound.invariant

pub returns : goal.returns
returns c =
    let m = meant c.args.names.now in
    bounds_end m c.as_slice-bound-items.result.now c.loop-bound.bound-index c.loop-bound.steps _ c.loop-bound-test.false c.loop-bound.invariant
    ∙ ap (bounds_steps m) c.as_slice-bound-items.ensures

use Rattle.std.proofs.Common.{◌∙◌}
use Rattle.f77_values.proofs.Products.{elements_more}
use Rattle.f77_values.proofs.sizes.elements.Goals as goal

pub loop-bound-preserved : goal.loop-bound-preserved
loop-bound-preserved c =
    c.times-size.ensures ∙ elements_more _ _ c.loop-bound.bound-index c.bound-item.result c.loop-bound.size c.extent.result c.loop-bound-test.true c.bound-item.is c.loop-bound.invariant c.extent.ensures

use Rattle.std.proofs.Common.{refl}
use Rattle.f77_flow.proofs.Adding.{adds_none, adds_target}
use Rattle.f77_flow.proofs.simple.push_targets.Goals as goal

pub loop-label-init : goal.loop-label-init
loop-label-init c = adds_none _ _

pub loop-label-preserved : goal.loop-label-preserved
loop-label-preserved c =
    let within = rw c.target.ensures.value at c.target.ensures.within in
    rw ((c.in_ok-push.ensures {u = tt}).ok, c.target.ensures.value) (adds_target _ _ _ _ _ _ c.loop-label-test.true refl within c.loop-label.invariant)

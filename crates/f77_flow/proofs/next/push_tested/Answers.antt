use Rattle.std.proofs.Common.{◌∙◌, arith}
use Rattle.f77_flow.specs.Graph.{Test}
use Rattle.f77_flow.proofs.Adding.{adds_between, adds_tested_by, adds_nowhere}
use Rattle.f77_flow.proofs.next.push_tested.Goals as goal

pub returns-in_ok-push_ended : goal.returns-in_ok-push_ended
returns-in_ok-push_ended c =
    adds_between _ (Test c.args.d) _ _ tt (adds_tested_by _ c.args.d _ _ _ _ _ c.last-last.ensures c.if-last-control.true c.below.ensures.value c.below.ensures.within (c.in_ok-push.ensures {u = tt}).ok
    (λ is. c.in_ok-push_ended.ensures c.args.d (c.outer.ensures ∙ is)))

pub returns-else-last-control : goal.returns-else-last-control
returns-else-last-control c = adds_between _ (Test c.args.d) _ _ tt (adds_nowhere _ c.args.d _ (omega (arith, c.last-last.ensures, c.if-last-control.false)))

use Rattle.f77_flow.proofs.Passes.{on_ok}
use Rattle.f77_flow.proofs.Adding.{comes_start, comes_next, comes_done, falls}
use Rattle.f77_flow.proofs.ended.push_ended.Goals as goal

pub turn-init : goal.turn-init
turn-init c = λ m e. comes_start _ _ m _ _ e

pub turn-preserved : goal.turn-preserved
turn-preserved c = λ m e.
    let within = rw c.below.ensures.value at c.below.ensures.within in
    rw (c.outer-d.ensures, (c.in_ok-push.ensures {u = tt}).ok, c.below.ensures.value)
    (comes_next _ _ m _ _ _ (c.turn.invariant m e) c.turn-test.true c.requires within)

pub turn-smaller : goal.turn-smaller
turn-smaller c = falls _ _ _ c.turn-test.true c.outer-d.ensures

pub returns : goal.returns
returns c = on_ok c.push-2.result _ _ (λ ok m e. comes_done _ _ m _ _ _ _ _ (c.turn.invariant m e) c.turn-test.false c.requires c.below-2.ensures.value c.below-2.ensures.within ok) c.push-2.ensures.ok

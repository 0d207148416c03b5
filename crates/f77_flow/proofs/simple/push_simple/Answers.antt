use Rattle.std.proofs.Common.{◌≡◌, [], sym, subst, rules}
use Rattle.f77_tree.specs.declared.form.Form.{out-Form}
use denote.Hole as hole
use Rattle.f77_flow.specs.Graph.{simple_ways}
use Rattle.f77_flow.specs.Adding.{Adds}
use Rattle.f77_flow.proofs.Adding.{adds_none, adds_append, adds_then, adds_push}
use Rattle.f77_flow.proofs.simple.push_simple.Goals as goal

pub returns-in_ok-push-in-ArithmeticIf-3 : goal.returns-in_ok-push-in-ArithmeticIf-3
unfolding out-Form hole.Carrier.out
returns-in_ok-push-in-ArithmeticIf-3 c = rw c.in-ArithmeticIf.is
    (adds_then _ _ _ _ _ _ (adds_push _ _ _ _ _ c.target.ensures.value c.target.ensures.within (c.in_ok-push-in-ArithmeticIf.ensures {u = tt}).ok)
    (adds_then _ _ _ _ _ _ (adds_push _ _ _ _ _ c.target-in-ArithmeticIf.ensures.value c.target-in-ArithmeticIf.ensures.within (c.in_ok-push-in-ArithmeticIf-2.ensures {u = tt}).ok)
    (adds_push _ _ _ _ _ c.target-in-ArithmeticIf-2.ensures.value c.target-in-ArithmeticIf-2.ensures.within (c.in_ok-push-in-ArithmeticIf-3.ensures {u = tt}).ok)))

pub returns-in_ok-push-in-GoTo : goal.returns-in_ok-push-in-GoTo
unfolding out-Form hole.Carrier.out
returns-in_ok-push-in-GoTo c = rw c.in-GoTo.is (adds_push _ _ _ _ _ c.target-in-GoTo.ensures.value c.target-in-GoTo.ensures.within (c.in_ok-push-in-GoTo.ensures {u = tt}).ok)

pub returns-in_ok-push_after-in-ComputedGoTo : goal.returns-in_ok-push_after-in-ComputedGoTo
unfolding out-Form hole.Carrier.out
returns-in_ok-push_after-in-ComputedGoTo c = rw c.in-ComputedGoTo.is (adds_append _ _ _ _ _ _ (rw c.as_slice.ensures at (c.in_ok-push_targets-in-ComputedGoTo.ensures {u = tt})) c.in_ok-push_after-in-ComputedGoTo.ensures)

pub returns-in_default : goal.returns-in_default
returns-in_default c =
    let e : simple_ways c.args.control.now.statements.now c.args.k (out-Form c.args.form.now) ≡ [] = search rules in
    subst (λ ps. Adds c.args.control.now.statements.now ps c.args.all.now c.args.all.now) (sym e) (adds_none _ _)

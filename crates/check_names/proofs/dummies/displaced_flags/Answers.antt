use Rattle.f77_tree.specs.declared.form.Form.TheViews.{out-Form}
use Rattle.check_names.specs.Dummies.{displaces, displaces_at}
use Rattle.check_names.proofs.Passes.{read, pushed, here}
use Rattle.check_names.proofs.dummies.displaced_flags.Goals as goal

pub loop-statement-preserved : goal.loop-statement-preserved
loop-statement-preserved c =
    let s = c.statement-item.result in
    let u = c.args.unit.now in
    let a = c.args.a.now in
    let k = c.loop-statement.statement-index in
    let stands = read u.statements _ k s c.as_slice-statement-items.ensures c.loop-statement-test.true c.statement-item.is in
    pushed (displaces_at a u) _ _ _ k c.loop-statement.invariant (here (λ x. displaces a (out-Form x.form)) u.statements k s _ stands c.displaces.ensures) c.in_ok-push.ensures.ok

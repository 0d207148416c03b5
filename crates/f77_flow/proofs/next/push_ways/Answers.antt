use Rattle.std.proofs.Common.{◌≡◌, [], ◌∷◌, sym, ◌∙◌, ap, subst, rules}
use Rattle.f77_tree.specs.declared.form.Form.{Form, out-Form}
use Rattle.f77_tree.specs.declared.form.Form.TheOpen.{Form-F}
use Rattle.f77_tree.specs.declared.form.Form.TheViews.{outs-LogicalIf}
use Rattle.f77_flow.specs.Blocks.{below, otherwise}
use Rattle.f77_flow.specs.Graph.{At, ways}
use Rattle.f77_flow.specs.Adding.{Adds}
use Rattle.f77_flow.proofs.Adding.{adds_inside, adds_then, adds_push}
use Rattle.f77_flow.proofs.next.push_ways.Goals as goal

pub returns-in_ok-push_after-in-LogicalIf : goal.returns-in_ok-push_after-in-LogicalIf
returns-in_ok-push_after-in-LogicalIf c = λ s stands e.
    let open_form : out-Form c.args.form.now ≡ Form-F.LogicalIf c.in-LogicalIf.field-0 c.in-LogicalIf.inner = ap out-Form c.in-LogicalIf.is ∙ outs-LogicalIf c.in-LogicalIf.field-0 c.in-LogicalIf.inner in
    subst (λ (f : Form-F Form). Adds c.args.control.now.statements.now (ways c.args.control.now.statements.now c.args.k f) c.args.all.now c.push_after-in-LogicalIf.new.all) (sym open_form)
    (adds_then _ _ _ _ _ _ (adds_inside _ c.args.k s _ _ _ _ stands (ap out-Form e ∙ open_form) (rw c.get.ensures at (c.in_ok-push_simple-in-LogicalIf.ensures {u = tt}))) c.in_ok-push_after-in-LogicalIf.ensures)

pub returns-in_ok-push-in-BlockIf-2 : goal.returns-in_ok-push-in-BlockIf-2
returns-in_ok-push-in-BlockIf-2 c = λ s stands e.
    let is : ways c.args.control.now.statements.now c.args.k (out-Form c.args.form.now) ≡ At (below c.args.control.now.statements.now c.args.k) ∷ At (otherwise c.args.control.now.statements.now c.args.k) ∷ [] = search rules in
    subst (λ ps. Adds c.args.control.now.statements.now ps c.args.all.now c.push-in-BlockIf.new.self) (sym is)
    (adds_then _ _ _ _ _ _ (adds_push _ _ _ _ _ c.below.ensures.value c.below.ensures.within (c.in_ok-push-in-BlockIf.ensures {u = tt}).ok)
    (adds_push _ _ _ _ _ c.otherwise.ensures.value c.otherwise.ensures.within (c.in_ok-push-in-BlockIf-2.ensures {u = tt}).ok))

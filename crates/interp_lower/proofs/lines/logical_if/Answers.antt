use Rattle.std.proofs.Common.{ℕ, ◌+◌, refl, sym, ap, ◌∙◌, subst}
use Rattle.f77_tree.specs.declared.form.Form.{out-Form}
use Rattle.f77_flow.specs.Labels.{target}
use Rattle.f77_semantics.specs.Program.{Statement}
use Rattle.f77_semantics.specs.Resolve.{simple, sites}
use Rattle.interp_data.specs.Meant.{meant}
use Rattle.interp_lower.specs.Lines.{IsPiece}
use Rattle.interp_lower.proofs.Preludes.{counted, prelude-LogicalIf}
use Rattle.interp_lower.proofs.lines.logical_if.Goals as goal

pub returns : goal.returns
returns c =
    let m = meant c.args.names.now in
    let e = c.args.e.now in
    let inside : ℕ → Statement = λ s. simple m c.args.main (target c.args.control.now.statements.now) s (out-Form c.args.inner.now) in
    let next = c.in_ok-steps.ensures.next ∙ ap (λ n. c.args.site + n) (counted m e) in
    record {
      piece = record { steps = c.in_ok-steps.ensures.steps ∙ sym (prelude-LogicalIf m e c.args.site (inside (c.args.site + sites m e))); ending = refl };
      inner = subst (λ (s : ℕ). IsPiece c.in_ok-inner.inner (inside s)) next c.in_ok-inner.ensures;
    }

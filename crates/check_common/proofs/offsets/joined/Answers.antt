use Rattle.std.proofs.Common.{Some, sym, ap, ap₂, ◌∙◌}
use Rattle.std.specs.Option.{option_map}
use Rattle.f77_values.specs.Tables.{saturated}
use Rattle.check_common.specs.Storage as s
use Rattle.check_common.proofs.Elements.{step_saturated}
use Rattle.check_common.proofs.offsets.joined.Goals as goal

pub returns : goal.returns
returns c = λ k h.
    ap Some (c.min.ensures ∙ step_saturated c.in-Some-Some.i c.in-Some-Some.extent k c.args.others c.product.result h c.product.ensures.value)
    ∙ sym (ap₂ (λ i e. option_map saturated (s.joined i e (Some k))) c.in-Some-Some.is-0 c.in-Some-Some.is-1)

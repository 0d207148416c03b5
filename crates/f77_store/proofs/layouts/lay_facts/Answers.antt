use Rattle.std.proofs.Common.{ap, ◌∙◌}
use Rattle.f77_store.specs.Areas.{commons}
use Rattle.f77_store.specs.Layouts.{layout_with}
use Rattle.f77_values.proofs.Given.{if_ok}
use Rattle.f77_store.proofs.layouts.lay_facts.Goals as goal

pub returns : goal.returns
returns c =
    let f = c.args.facts.now in
    let all = c.args.all.now in
    if_ok c.lay_names.result
    (λ layout e.
    e
    ∙ (ap (λ members. layout_with f all members c.in_ok-names.names) (c.in_ok-commons.ensures {u = tt})
    ∙ ap (layout_with f all (commons c.args.declarations.now)) (c.in_ok-names.ensures {u = tt})))
    c.lay_names.ensures

use Rattle.std.proofs.Common.{ap, ◌∙◌}
use Rattle.f77_store.specs.Areas.{commons}
use Rattle.f77_store.specs.Layouts.{layout_with}
use Rattle.f77_names.specs.Occurrences.{occurrences}
use Rattle.f77_names.specs.Roles.{facts, facts_with, names_with}
use Rattle.f77_values.proofs.Given.{if_ok}
use Rattle.f77_store.proofs.layouts.lay_text.Goals as goal

pub returns : goal.returns
returns c =
    let u = c.args.unit.now in
    let f = (c.in_ok-facts.ensures {u = tt}) ∙ ap (λ all. facts_with all u) c.requires.all in
    if_ok c.lay_facts.result
    (λ layout e.
    e
    ∙ (ap (λ facts. layout_with facts c.args.all.now (commons c.args.declarations.now) (names_with facts c.args.all.now)) f
    ∙ (ap (λ all. layout_with (facts u) all (commons c.args.declarations.now) (names_with (facts u) all)) c.requires.all
    ∙ ap (λ declarations. layout_with (facts u) (occurrences u) (commons declarations) (names_with (facts u) (occurrences u))) c.requires.declarations)))
    c.lay_facts.ensures

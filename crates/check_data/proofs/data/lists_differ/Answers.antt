use Rattle.std.proofs.Common.{ap, ◌∙◌}
use Rattle.check_data.specs.DataRuns.{differ, item_runs}
use Rattle.check_data.proofs.Cutting.{differ_counted}
use Rattle.check_data.proofs.data.lists_differ.Goals as goal

pub returns : goal.returns
returns c =
    c.differ.ensures
    ∙ (ap (λ items. differ items c.in_ok-given.given) (c.in_ok-items.ensures {u = tt})
    ∙ (differ_counted c.args.facts.now c.args.measures.now c.args.list.now.0 c.in_ok-given.given c.in_ok-given.ensures.short
    ∙ ap (differ (item_runs c.args.facts.now c.args.measures.now c.args.list.now.0)) c.in_ok-given.ensures.runs))

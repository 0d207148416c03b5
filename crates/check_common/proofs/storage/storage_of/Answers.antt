use Rattle.std.proofs.Common.{ap, ap₂, ◌∙◌}
use Rattle.f77_store.specs.Areas.{commons}
use Rattle.f77_names.specs.Declarations.{shapes}
use Rattle.f77_values.proofs.Given.{if_ok}
use Rattle.check_common.specs.Storage.{storage_with}
use Rattle.check_common.proofs.storage.storage_of.Goals as goal

pub returns : goal.returns
returns c =
    if_ok c.stored.result
    (λ all e. e ∙ ap₂ (λ x y. storage_with x y c.args.unit.now.statements) (c.in_ok-shapes.ensures {u = tt} ∙ ap shapes c.requires.declarations) (c.requires.members ∙ ap commons c.requires.declarations))
    c.stored.ensures

use Rattle.std.proofs.Common.{◌∙◌}
use Rattle.std.proofs.lemmas.Result.{IfOk-weaker}
use Rattle.interp_data.proofs.Keeping.{kept_by}
use Rattle.interp_data.proofs.kept.kept_of.Goals as goal

pub returns : goal.returns
returns c = IfOk-weaker c.kept_slots.result _ _
    (λ found e. e ∙ kept_by c.args.statements.now c.args.slots.now c.all_kept.result c.in_ok-names.names c.all_kept.ensures c.in_ok-names.ensures)
    c.kept_slots.ensures

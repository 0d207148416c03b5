use Rattle.std.proofs.Common.{◌∙◌}
use Rattle.std.proofs.lemmas.Result.{IfOk-weaker}
use Rattle.serde_json.specs.View.{view}
use Rattle.obj_form.proofs.Writing.{writes_run}
use Rattle.obj_form.proofs.runs.run_value.Goals as goal

pub returns : goal.returns
returns c =
    IfOk-weaker c.three_value.result _ _ (λ v e d h.
    e ∙ writes_run c.args.run (view c.word_value-from.result) (view c.word_value-count.result) (view c.constant_value.result)
    c.word_value-from.ensures c.word_value-count.ensures c.constant_value.ensures d h) c.three_value.ensures

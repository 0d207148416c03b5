use Rattle.std.proofs.Common.{◌∙◌}
use Rattle.std.proofs.lemmas.Result.{IfOk-weaker}
use Rattle.serde_json.specs.View.{view}
use Rattle.obj_form.proofs.Writing.{writes_reloc}
use Rattle.obj_form.proofs.relocs.reloc_value.Goals as goal

pub returns : goal.returns
returns c =
    IfOk-weaker c.two_value.result _ _ (λ v e d h.
    e ∙ writes_reloc c.args.reloc.now (view c.word_value.result) (view c.in_ok-target.target) c.word_value.ensures c.in_ok-target.ensures d h) c.two_value.ensures

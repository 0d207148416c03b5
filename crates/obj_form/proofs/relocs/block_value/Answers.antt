use Rattle.std.proofs.Common.{◌≡◌, codes, ap, ◌∙◌, rules}
use Rattle.std.proofs.lemmas.Result.{IfOk-weaker}
use Rattle.serde_json.specs.Data.{string}
use Rattle.serde_json.specs.View.{view}
use Rattle.obj_form.specs.Grammar.{three}
use Rattle.obj_form.proofs.Writing.{writes_block}
use Rattle.obj_form.proofs.relocs.block_value.Goals as goal

pub returns : goal.returns
returns c =
    let word : view c.in_ok-word.word ≡ string (codes "block") = search rules in
    let name = view c.in_ok-name_value.field-0 in
    let at = view c.word_value.result in
    IfOk-weaker c.three_value.result _ _ (λ v e d h.
    e ∙ ap (λ w. three w name at) word ∙ writes_block c.args.block.now c.args.at name at c.in_ok-name_value.ensures.block c.word_value.ensures d h) c.three_value.ensures

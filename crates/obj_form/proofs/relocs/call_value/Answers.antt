use Rattle.std.proofs.Common.{◌≡◌, codes, ap, ◌∙◌, rules}
use Rattle.std.proofs.lemmas.Result.{IfOk-weaker}
use Rattle.serde_json.specs.Data.{string}
use Rattle.serde_json.specs.View.{view}
use Rattle.obj_form.specs.Grammar.{two}
use Rattle.obj_form.proofs.Writing.{writes_call}
use Rattle.obj_form.proofs.relocs.call_value.Goals as goal

pub returns : goal.returns
returns c =
    let word : view c.in_ok-word.word ≡ string (codes "call") = search rules in
    let name = view c.in_ok-name_value.field-0 in
    IfOk-weaker c.two_value.result _ _ (λ v e d h. e ∙ ap (λ w. two w name) word ∙ writes_call c.args.name.now name c.in_ok-name_value.ensures.named d h) c.two_value.ensures

use Rattle.std.proofs.Common.{◌≡◌, codes, ap, ◌∙◌, rules}
use Rattle.std.proofs.lemmas.Result.{IfOk-weaker}
use Rattle.serde_json.specs.Data.{string}
use Rattle.serde_json.specs.View.{view}
use Rattle.obj_form.specs.Grammar.{two}
use Rattle.obj_form.proofs.Writing.{writes_own}
use Rattle.obj_form.proofs.relocs.own_value.Goals as goal

pub returns : goal.returns
returns c =
    let word : view c.in_ok-word.word ≡ string (codes "own") = search rules in
    let at = view c.word_value.result in
    IfOk-weaker c.two_value.result _ _ (λ v e d h. e ∙ ap (λ w. two w at) word ∙ writes_own c.args.at at c.word_value.ensures d h) c.two_value.ensures

use Rattle.std.proofs.Common.{◌∙◌, subst}
use Rattle.std.proofs.lemmas.Result.{IfOk-weaker}
use Rattle.serde_json.specs.View.{view}
use Rattle.obj_form.specs.Grammar.{IsArrayOf, IsCode, IsReloc, IsRun, Writes}
use Rattle.obj_form.proofs.Writing.{writes_object}
use Rattle.obj_form.proofs.form.object_value.Goals as goal

pub returns : goal.returns
returns c =
    let code = view c.in_ok-code.code in
    let initial = view c.in_ok-initial.initial in
    let relocs = view c.in_ok-relocs.relocs in
    let size = view c.word_value.result in
    IfOk-weaker c.fields_value.result _ _ (λ v e d h.
    e ∙ writes_object c.args.object.now code initial relocs size
    (subst (Writes IsCode code) c.as_slice.ensures c.in_ok-code.ensures)
    (subst (Writes (IsArrayOf IsRun) initial) c.as_slice-2.ensures c.in_ok-initial.ensures)
    (subst (Writes (IsArrayOf IsReloc) relocs) c.as_slice-3.ensures c.in_ok-relocs.ensures)
    c.word_value.ensures d h) c.fields_value.ensures

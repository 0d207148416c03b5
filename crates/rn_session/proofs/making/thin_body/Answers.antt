use Rattle.std.proofs.Common.{List, subst}
use Rattle.std.proofs.lemmas.Result.{err_from_is_err_and}
use Rattle.fixed_form.specs.declared.reader.UnitText.{UnitText}
use Rattle.rn_draft.specs.Accepted.{Explains}
use Rattle.rn_session.proofs.ThinTexts.{draft_fault, known_text, text_of, small_of, fault_of}
use Rattle.rn_session.proofs.making.thin_body.Goals as goal

pub returns-in_err-accept-clause-fault : goal.returns-in_err-accept-clause-fault
returns-in_err-accept-clause-fault c =
    let p = err_from_is_err_and c.from_residual-in_err-accept.result c.from_residual-in_err-accept.ensures.1 in
    let h = subst (λ (us : List UnitText). Explains c.in_err-accept.field-0.0 us) c.as_slice-2.ensures (c.in_err-accept.ensures {u = tt}).fault in
    rw (p.1, p.2) (draft_fault c.in_err-accept.field-0.0 c.args.text.now c.in_ok-units.units c.in_ok-draft.draft (c.in_ok-units.ensures {u = tt}).units (c.in_ok-draft.ensures {u = tt}).draft h)

pub returns-clause-text : goal.returns-clause-text
returns-clause-text c =
    let k = known_text c.args.text.now c.in_ok-thin.thin c.in_ok-units.units c.as_slice.result.now c.in_ok-draft.draft c.as_slice-2.result.now c.in_ok-accept.field-0 (c.in_ok-units.ensures {u = tt}).units c.as_slice.ensures (c.in_ok-thin.ensures {u = tt}).told
    (c.in_ok-draft.ensures {u = tt}).draft c.as_slice-2.ensures (c.in_ok-accept.ensures {u = tt}).accepted (c.in_ok-accept.ensures {u = tt}).few in
    text_of c.body_of.result c.args.text.now c.in_ok-thin.thin k c.sizes_law.ensures.size c.body_of.ensures.body

pub returns-clause-small : goal.returns-clause-small
returns-clause-small c =
    let k = known_text c.args.text.now c.in_ok-thin.thin c.in_ok-units.units c.as_slice.result.now c.in_ok-draft.draft c.as_slice-2.result.now c.in_ok-accept.field-0 (c.in_ok-units.ensures {u = tt}).units c.as_slice.ensures (c.in_ok-thin.ensures {u = tt}).told
    (c.in_ok-draft.ensures {u = tt}).draft c.as_slice-2.ensures (c.in_ok-accept.ensures {u = tt}).accepted (c.in_ok-accept.ensures {u = tt}).few in
    small_of c.body_of.result c.args.text.now c.in_ok-thin.thin k c.drafts_law.ensures.one c.sizes_law.ensures.few c.sizes_law.ensures.short c.read_law.ensures.short c.body_of.ensures.body

pub returns-clause-fault : goal.returns-clause-fault
returns-clause-fault c =
    let k = known_text c.args.text.now c.in_ok-thin.thin c.in_ok-units.units c.as_slice.result.now c.in_ok-draft.draft c.as_slice-2.result.now c.in_ok-accept.field-0 (c.in_ok-units.ensures {u = tt}).units c.as_slice.ensures (c.in_ok-thin.ensures {u = tt}).told
    (c.in_ok-draft.ensures {u = tt}).draft c.as_slice-2.ensures (c.in_ok-accept.ensures {u = tt}).accepted (c.in_ok-accept.ensures {u = tt}).few in
    fault_of c.body_of.result c.args.text.now c.in_ok-thin.thin k c.body_of.ensures.fault

use Rattle.f77_forms.proofs.DeepTexts.{no_deep_tokens, deep_text, other_text}
use Rattle.f77_forms.proofs.depth.is_too_deep.Goals as goal

pub returns-in-Ok : goal.returns-in-Ok
returns-in-Ok c = let h = c.in-Ok.ensures {u = tt} in no_deep_tokens c.lexes_law.ensures.pieces c.args.text.now c.in-Ok.field-0 h.tokens h.depth

pub returns-then-fault-eq11 : goal.returns-then-fault-eq11
returns-then-fault-eq11 c =
    let h = rw c.in-Err-Fault.field-0-is at (c.in-Err-Fault.ensures {u = tt}).fault in
    deep_text c.in-Err-Fault.fault _ c.args.text.now h c.if-fault-eq11.true

pub returns : goal.returns
returns c =
    let h = rw c.in-Err-Fault.field-0-is at (c.in-Err-Fault.ensures {u = tt}).fault in
    other_text c.lexes_law.ensures.pieces c.in-Err-Fault.fault _ c.args.text.now h c.if-fault-eq11.false

use Rattle.f77_parse.proofs.Texts.{no_token_fault, told_fault, untold_fault}
use Rattle.f77_parse.proofs.statement.token_fault.Goals as goal

pub returns-in-Ok : goal.returns-in-Ok
returns-in-Ok c = let h = c.in-Ok.ensures {u = tt} in no_token_fault c.lexes_law.ensures.pieces c.args.text.now c.in-Ok.field-0 h.tokens h.depth

pub returns-then-fault-eq6 : goal.returns-then-fault-eq6
returns-then-fault-eq6 c =
    let h = rw c.in-Err-Fault.field-0-is at (c.in-Err-Fault.ensures {u = tt}).fault in
    untold_fault c.lexes_law.ensures.pieces c.args.text.now c.in-Err-Fault.fault c.nowhere.result h c.if-fault-eq6.true

pub returns : goal.returns
returns c =
    let h = rw c.in-Err-Fault.field-0-is at (c.in-Err-Fault.ensures {u = tt}).fault in
    told_fault c.lexes_law.ensures.pieces c.args.text.now c.in-Err-Fault.fault c.nowhere.result h c.if-fault-eq6.false

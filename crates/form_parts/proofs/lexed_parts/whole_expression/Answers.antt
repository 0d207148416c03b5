use Rattle.form_parts.proofs.Answered.{found_expression, never_expression}
use Rattle.form_parts.proofs.lexed_parts.whole_expression.Goals as goal

pub returns-in-Ok : goal.returns-in-Ok
returns-in-Ok c = found_expression c.args.tokens.now c.in-Ok.found (c.in-Ok.ensures {u = tt}).whole

pub returns-in-Err-Fault : goal.returns-in-Err-Fault
returns-in-Err-Fault c = never_expression (rw c.in-Err-Fault.field-0-is at (c.in-Err-Fault.ensures {u = tt}).fault) c.requires

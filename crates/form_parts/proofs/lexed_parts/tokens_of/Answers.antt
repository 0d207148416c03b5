use Rattle.form_parts.proofs.Answered.{sole_tokens, no_tokens}
use Rattle.form_parts.proofs.lexed_parts.tokens_of.Goals as goal

pub returns-in-Ok : goal.returns-in-Ok
returns-in-Ok c = sole_tokens (c.in-Ok.ensures {u = tt}).tokens (c.in-Ok.ensures {u = tt}).depth

pub returns-in-Err-Fault : goal.returns-in-Err-Fault
returns-in-Err-Fault c = no_tokens (rw c.in-Err-Fault.field-0-is at (c.in-Err-Fault.ensures {u = tt}).fault)

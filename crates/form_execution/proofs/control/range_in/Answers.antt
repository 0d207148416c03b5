use Rattle.form_execution.specs.Control.{IsRange}
use Rattle.form_parts.proofs.Answered.{never_tokens, found_in}
use Rattle.form_execution.proofs.control.range_in.Goals as goal

pub returns-in_default : goal.returns-in_default
returns-in_default c = never_tokens (rw c.in_default.is at (c.in_ok-tokens.ensures {u = tt}))

pub returns : goal.returns
returns c = found_in IsRange c.range.result (rw c.in-Some.is at (c.in_ok-tokens.ensures {u = tt})) (rw c.as_slice.ensures at c.range.ensures)

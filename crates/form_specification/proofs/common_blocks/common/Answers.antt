use Rattle.form_parts.proofs.Entries.{sole_sequence, never_first, never_others}
use Rattle.form_specification.proofs.common_blocks.common.Goals as goal

pub returns-in_default : goal.returns-in_default
returns-in_default c = never_first (rw c.in_default.is at (c.in_ok-first.ensures {u = tt}).entry)

pub returns-in_default-2 : goal.returns-in_default-2
returns-in_default-2 c = never_others (rw c.in-Some.is at (c.in_ok-first.ensures {u = tt}).entry) (rw c.in_default-2.is at (c.in_ok-all.ensures {u = tt}))

pub returns : goal.returns
returns c = sole_sequence (rw c.in-Some.is at (c.in_ok-first.ensures {u = tt}).entry) (rw c.in-Some-2.is at (c.in_ok-all.ensures {u = tt}))

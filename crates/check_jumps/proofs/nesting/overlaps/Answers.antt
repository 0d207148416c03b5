use Rattle.check_jumps.proofs.Crossing.{overlaps_by, span_most}
use Rattle.check_jumps.proofs.nesting.overlaps.Goals as goal

pub ends_before-requires-clause-within : goal.ends_before-requires-clause-within
ends_before-requires-clause-within c = rw c.as_slice.ensures (span_most _ _ _ c.requires.right.of_spans c.requires.within)

pub returns : goal.returns
returns c = overlaps_by _ _ _ _ c.requires.right.of_spans c.requires.within (rw c.as_slice.ensures at c.ends_before.ensures)

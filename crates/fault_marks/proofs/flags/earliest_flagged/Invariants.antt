use Rattle.fault_marks.specs.Earliest as e
use Rattle.fault_marks.specs.Places as p
use Rattle.fault_marks.proofs.flags.earliest_flagged.Given as goal

abbrev pub invariant-loop-k : goal.invariant-loop-k
invariant-loop-k l = e.Earliest (p.FlaggedBefore l.statements l.flags l.number l.limit l.k) l.found

use Rattle.f77_flow.specs.Checks.{IsMisnested}
use Rattle.fault_marks.proofs.Deciding.{decided}
use Rattle.check_jumps.proofs.Flags.{flags_decide}
use Rattle.check_jumps.proofs.faults.misnested_fault.Goals as goal

pub returns : goal.returns
returns c = decided c.args.nests.now.parts.control.statements.now (IsMisnested c.args.nests.now.parts.control.statements.now) c.in_ok-flags.flags 18 0 _ (flags_decide c.args.nests.now.parts.control.statements.now (IsMisnested c.args.nests.now.parts.control.statements.now) c.in_ok-flags.flags (c.in_ok-flags.ensures {u = tt})) (rw c.as_slice.ensures at c.earliest_flagged.ensures.earliest)

use Rattle.f77_flow.specs.Checks.{EndsLoopBadly}
use Rattle.fault_marks.proofs.Deciding.{decided}
use Rattle.check_jumps.proofs.Flags.{flags_decide}
use Rattle.check_jumps.proofs.faults.bad_end_fault.Goals as goal

pub returns : goal.returns
returns c = decided c.args.control.now.statements.now (EndsLoopBadly c.args.control.now.statements.now) c.in_ok-flags.flags 17 0 _ (flags_decide c.args.control.now.statements.now (EndsLoopBadly c.args.control.now.statements.now) c.in_ok-flags.flags (c.in_ok-flags.ensures {u = tt})) (rw c.as_slice.ensures at c.earliest_flagged.ensures.earliest)

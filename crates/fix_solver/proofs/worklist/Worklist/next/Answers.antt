use Rattle.fix_solver.proofs.Queues.{worklist_takes}
use Rattle.fix_solver.proofs.worklist.Worklist.next.Goals as goal

-- the first node no longer waits
pub invariant_of-self-2 : goal.invariant_of-self-2
invariant_of-self-2 c = worklist_takes _ _ _ (rw c.in_ok-node.ensures.items at c.self.invariant)

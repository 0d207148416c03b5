use Rattle.std.proofs.Common.{◌≡◌, ◌<◌, false, length, arith, sym, subst}
use Rattle.std.proofs.lemmas.Grind.{common_steps}
use Rattle.fix_solver.specs.Worklists.{waits}
use Rattle.fix_solver.proofs.Queues.{worklist_adds}
use Rattle.fix_solver.proofs.worklist.Worklist.add.Goals as goal

-- the node comes last, and is marked
pub invariant_of-self-then-not-index : goal.invariant_of-self-then-not-index
invariant_of-self-then-not-index c =
    let within : c.args.node < length c.self.inside.marks.items = subst (λ w. c.args.node < w.0) (sym c.self.view_is) c.requires in
    let marked = c.self.invariant.marked c.args.node c.index.result.now within in
    let out : waits c.self.inside.queue.items c.args.node ≡ false = grind (arith, common_steps, marked) in
    rw c.in_ok-push_back.ensures.items (worklist_adds _ _ _ c.self.invariant within out)

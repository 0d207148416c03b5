use Rattle.std.proofs.Common.{ℕ, List, ◌∙◌, ap}
use Rattle.fix_solver.specs.Worklists.{with_node}
use Rattle.fix_solver.proofs.Queues.{worklist_starts, range_next}
use Rattle.fix_solver.proofs.worklist.Worklist.all.Goals as goal

pub invariant_of-all : goal.invariant_of-all
invariant_of-all c = rw (c.in_ok-vec.ensures.items_if_clones_equal (λ y same. same), c.new.ensures.items) (worklist_starts c.args.nodes)

pub loop-node-preserved : goal.loop-node-preserved
loop-node-preserved c =
    let Seen : Type 0 = ℕ × List ℕ in
    let add : Seen → Seen = λ w. (w.0, with_node w.1 c.loop-node.node) in
    let seen : List ℕ → Seen = λ queue. (c.args.nodes, queue) in
    c.in_ok-add.ensures.ok ∙ ap add c.loop-node.invariant ∙ ap seen (range_next c.loop-node.node)

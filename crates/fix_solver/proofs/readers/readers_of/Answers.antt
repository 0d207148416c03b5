use Rattle.std.proofs.Common.{ℕ, ◌<◌, Vec, ◌∙◌, sym}
use Rattle.std.specs.declared.alloc.Global.{Global}
use Rattle.fix_solver.proofs.Reading.{readers_start, readers_more}
use Rattle.fix_solver.proofs.readers.readers_of.Goals as goal

pub loop-node-init : goal.loop-node-init
loop-node-init g c =
    let empty = c.in_ok-readers.ensures in
    readers_start (λ (list : Vec ℕ Global). list.items) _ _ _ (empty.count ∙ c.nodes-nodes.ensures.count) empty.empty

pub loop-node-preserved : goal.loop-node-preserved
loop-node-preserved g c =
    let within : c.loop-node.node < g.S.System.nodes c.args.system.now = rw (sym c.nodes-nodes.ensures.count) c.loop-node-test.true in
    readers_more (λ (list : Vec ℕ Global). list.items) _ _ c.loop-node.node _ _ c.loop-node.invariant within (rw c.sources.ensures at c.in_ok-add_reader.ensures)

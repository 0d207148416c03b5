use Rattle.std.proofs.Common.{◌≡◌, ◌≤◌, fold, take, length}
use Rattle.fix_solver.specs.Worklists.{with_node}
use Rattle.fix_solver.proofs.worklist.Worklist.add_all.Given as goal

-- the nodes so far were added
abbrev pub invariant-loop-node : goal.invariant-loop-node
invariant-loop-node l = record {
  in_range : l.node-index ≤ length l.nodes;
  added : l.self ≡ (l.initial.self.0, fold with_node l.initial.self.1 (take l.node-index l.nodes));
}

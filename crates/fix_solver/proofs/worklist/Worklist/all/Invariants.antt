use Rattle.std.proofs.Common.{◌≡◌}
use Rattle.std.specs.List.{range_with_len}
use Rattle.fix_solver.proofs.worklist.Worklist.all.Given as goal

-- the nodes so far wait
abbrev pub invariant-loop-node : goal.invariant-loop-node
invariant-loop-node l = l.all ≡ (l.nodes, range_with_len 0 l.node)

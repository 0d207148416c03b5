use Rattle.std.proofs.Common.{ℕ, Vec}
use Rattle.std.specs.declared.alloc.Global.{Global}
use Rattle.fix_solver.specs.Readers.{IsReaders}
use Rattle.fix_solver.proofs.readers.readers_of.Given as goal

-- the readers among the nodes so far
abbrev pub invariant-loop-node : goal.invariant-loop-node
invariant-loop-node g l = IsReaders (λ (list : Vec ℕ Global). list.items) (g.S.System.sources l.system) (g.S.System.nodes l.system) l.node l.readers.items

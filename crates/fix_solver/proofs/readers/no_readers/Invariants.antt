use Rattle.std.proofs.Common.{◌≡◌, [], All, length}
use Rattle.fix_solver.proofs.readers.no_readers.Given as goal

-- an empty list for each node so far
abbrev pub invariant-loop-node : goal.invariant-loop-node
invariant-loop-node l = record { count : length l.lists.items ≡ l.node; empty : All (λ list. list.items ≡ []) l.lists.items }

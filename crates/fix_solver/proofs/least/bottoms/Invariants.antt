use Rattle.std.proofs.Common.{◌≡◌, All, length}
use Rattle.fix_solver.proofs.least.bottoms.Given as goal

-- the bottom for each node so far
abbrev pub invariant-loop : goal.invariant-loop
invariant-loop g l = record { count : length l.values.items ≡ l.counter; bottoms : All (λ value. value ≡ g.L.Lattice.bottom) l.values.items }

use Rattle.rn_lattice.proofs.Joining.{Joining}
use Rattle.rn_lattice.proofs.keyed.KeyedLattice.join.Given as goal

-- the entries so far are joined
abbrev pub invariant-loop-key : goal.invariant-loop-key
invariant-loop-key g l = Joining g.K.Ord.cmp g.L.Lattice.is_value g.L.Lattice.leq g.L.Lattice.bottom l.fn.self l.other l.key-iterator l.self l.rose

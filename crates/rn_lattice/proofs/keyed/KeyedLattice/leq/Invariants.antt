use Rattle.std.proofs.Common.{◌≡◌, All, Some}
use Rattle.rn_lattice.specs.Maps.{get, map_leq}
use Rattle.rn_lattice.proofs.keyed.KeyedLattice.leq.Given as goal

-- the entries that are left decide
abbrev pub invariant-loop-key : goal.invariant-loop-key
invariant-loop-key g l =
    let cmp = g.K.Ord.cmp in
    let lattice = g.L.Lattice in
    record {
      same : map_leq cmp lattice.leq lattice.bottom l.self l.other ≡ map_leq cmp lattice.leq lattice.bottom l.key-iterator l.other;
      found : All (λ (e : _ × _). get cmp l.self e.0 ≡ Some e.1) l.key-iterator;
    }

use Rattle.std.proofs.Common.{ℕ, ◌<◌, ◌≤◌, length, slice_index_or, All, IsTrue}
use Rattle.rn_lattice.proofs.lattice.join_all.Given as goal

-- the least upper bound of the values so far
abbrev pub invariant-loop-value : goal.invariant-loop-value
invariant-loop-value g l =
    let lattice = g.L.Lattice in
    record {
      in_range : l.value-index ≤ length l.values;
      value : lattice.is_value l.all;
      above : (k : ℕ) (d : _) → k < l.value-index → lattice.is_value (slice_index_or l.values k d) × IsTrue (lattice.leq (slice_index_or l.values k d) l.all);
      least : (w : _) → lattice.is_value w → All (λ x. IsTrue (lattice.leq x w)) l.values → IsTrue (lattice.leq l.all w);
    }

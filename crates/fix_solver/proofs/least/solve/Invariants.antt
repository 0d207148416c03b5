use Rattle.std.proofs.Common.{◌≡◌, ℕ, ◌+◌, ◌++◌, List, Vec, length, map}
use Rattle.std.specs.declared.alloc.Global.{Global}
use Rattle.rn_ports.specs.declared.ports.Kind.TheVariants.{Evaluate}
use Rattle.fix_solver.proofs.Solving.{Solving, left_to_rise}
use Rattle.fix_solver.proofs.least.solve.Given as goal

-- values below the least solution, and the evaluations that were noted
abbrev pub invariant-loop-node : goal.invariant-loop-node
invariant-loop-node g l =
    let s = g.S.System in
    let v = g.S.Value.Lattice in
    record {
      nodes : l.waiting.0 ≡ s.nodes l.system;
      order : List ℕ;
      solving : Solving v.is_value v.leq v.bottom (s.nodes l.system) (s.sources l.system) (s.fits l.system) (s.rank l.system) (s.evaluate l.system) (λ (list : Vec ℕ Global). list.items) l.readers.items l.values.items l.waiting.1 order;
      noted : g.T.Tally.notes l.tally ≡ g.T.Tally.notes l.fn.tally ++ map (λ n. (Evaluate l.analysis, s.name l.system n)) order;
    }

-- nodes that wait, and how often values may still rise
abbrev pub decreases-loop-node : goal.decreases-loop-node
decreases-loop-node g l =
    let s = g.S.System in
    let v = g.S.Value.Lattice in
    length l.waiting.1 + left_to_rise v.is_value v.leq v.bottom (s.nodes l.system) (s.sources l.system) (s.fits l.system) (s.rank l.system) (s.evaluate l.system) (λ (list : Vec ℕ Global). list.items) l.readers.items l.values.items

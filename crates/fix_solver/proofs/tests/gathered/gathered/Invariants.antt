use Rattle.std.proofs.Common.{◌≤◌, length, slice_index_or, take, All}
use Rattle.fix_solver.specs.Gathering.{IsGathered}
use Rattle.fix_solver.proofs.tests.gathered.gathered.Given as goal

-- the sources so far are joined
abbrev pub invariant-loop-source : goal.invariant-loop-source
invariant-loop-source g l =
    let lattice = g.L.Lattice in
    record {
      in_range : l.source-index ≤ length l.sources;
      gathered : IsGathered lattice.is_value lattice.leq l.fn.own (take l.source-index l.sources) (λ m. slice_index_or l.values m l.fn.own) l.all;
      values : All (λ m. lattice.is_value (slice_index_or l.values m l.fn.own)) (take l.source-index l.sources);
    }

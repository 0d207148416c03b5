use Rattle.std.proofs.Common.{ℕ, ◌+◌, length, subst}
use Rattle.fix_solver.specs.Systems.{edge_sum}
use Rattle.fix_solver.specs.Noting.{NotesEvaluations}
use Rattle.fix_solver.specs.ShortestLaws.{shortest, falls_at_first}
use Rattle.fix_solver.proofs.Gathered.{both_if_ok}
use Rattle.fix_solver.proofs.tests.shortest.shortest.Goals as goal

pub returns-clause-shortest : goal.returns-clause-shortest
returns-clause-shortest g c =
    let system = c.args.system.now in
    both_if_ok c.solve.result _ _ (λ known values solution n letter d. shortest system.graph known values.items solution n letter d) c.solve.ensures.known c.solve.ensures.solution

pub returns-clause-notes : goal.returns-clause-notes
returns-clause-notes g c = rw falls_at_first at c.solve.ensures.notes

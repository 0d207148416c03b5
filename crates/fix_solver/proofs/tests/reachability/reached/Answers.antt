use Rattle.fix_solver.specs.ReachabilityLaws.{told_exactly}
use Rattle.fix_solver.proofs.Gathered.{both_if_ok}
use Rattle.fix_solver.proofs.tests.reachability.reached.Goals as goal

pub returns-clause-exactly : goal.returns-clause-exactly
returns-clause-exactly g c =
    let system = c.args.system.now in
    both_if_ok c.solve.result _ _ (λ known flags solution. told_exactly system.graph system.start known flags.items solution) c.solve.ensures.known c.solve.ensures.solution

use Rattle.fix_solver.specs.ConstantLaws.{meeting}
use Rattle.fix_solver.proofs.Gathered.{both_if_ok}
use Rattle.fix_solver.proofs.tests.constants.constants.Goals as goal

pub returns-clause-meets : goal.returns-clause-meets
returns-clause-meets g c =
    let system = c.args.system.now in
    both_if_ok c.solve.result _ _ (λ known values solution. meeting system.graph system.given.items known values.items solution) c.solve.ensures.known c.solve.ensures.solution

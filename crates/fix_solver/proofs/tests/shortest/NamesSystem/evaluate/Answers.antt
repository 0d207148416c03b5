use Rattle.std.proofs.lemmas.Result.{IfOk-weaker}
use Rattle.fix_solver.specs.ShortestLaws.{shortest_evaluates}
use Rattle.fix_solver.proofs.tests.shortest.NamesSystem.evaluate.Goals as goal

-- the least upper bound is what the equation gives
pub returns : goal.returns
returns c =
    let system = c.args.self.now in
    IfOk-weaker c.gathered.result _ _ (λ all. shortest_evaluates system.graph c.sources.ensures.known c.args.node c.args.values.now c.requires.node c.requires.values _ _ all c.in_ok-own.ensures c.sources.ensures.sources) c.gathered.ensures

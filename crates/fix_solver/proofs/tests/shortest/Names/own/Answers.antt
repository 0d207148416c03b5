use Rattle.std.proofs.Common.{ap, ◌∙◌}
use Rattle.fix_solver.specs.Shortest.{letter_of, length_of}
use Rattle.fix_solver.specs.ShortestLaws.{own_raised}
use Rattle.fix_solver.proofs.tests.shortest.Names.own.Goals as goal

-- the map has the name's length alone
pub returns : goal.returns
returns c =
    let system = c.args.self.now in
    let raised = c.in_ok-raise.ensures in
    own_raised system.graph c.args.node c.raise.new.self c.letter_of-letter.result c.of-inner.result (c.letter_of-letter.ensures ∙ ap letter_of c.name-name.ensures) (c.of-inner.ensures ∙ ap length_of c.name-name.ensures) raised.map (rw c.new-own.ensures at raised.joins) (rw c.new-own.ensures at raised.others)

use Rattle.body_serves.proofs.Solved.{solutions_are_one}
use Rattle.body_serves.proofs.spent_law.Goals as goal

pub returns : goal.returns
returns c = solutions_are_one

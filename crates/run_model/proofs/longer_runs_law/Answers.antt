use Rattle.run_model.proofs.Extend.{goes_on}
use Rattle.run_model.proofs.longer_runs_law.Goals as goal

pub returns : goal.returns
returns c = goes_on

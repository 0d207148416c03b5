use Rattle.interp_code.proofs.Entries.{dimensions_do}
use Rattle.interp_code.proofs.bounds_law.Goals as goal

pub returns : goal.returns
returns c = dimensions_do

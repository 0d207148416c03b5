use Rattle.actual_laws.proofs.Programs.{actuals_fit}
use Rattle.actual_laws.proofs.actuals_law.Goals as goal

pub returns : goal.returns
returns c = record { fit = actuals_fit }

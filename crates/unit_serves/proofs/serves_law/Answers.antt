use Rattle.unit_serves.proofs.Served.{passes_compose, units_by_rows, widest_units}
use Rattle.unit_serves.proofs.serves_law.Goals as goal

pub returns : goal.returns
returns c = record { composes = passes_compose; rows = units_by_rows; widest = widest_units }

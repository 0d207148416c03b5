use Rattle.run_laws.proofs.Steps.{source_stops, source_ends, source_undefined, begins, stops_in_a_step}
use Rattle.run_laws.proofs.steps_law.Goals as goal

pub returns : goal.returns
returns c = record { stops = source_stops; ended = source_ends; undefined = source_undefined; begins = begins; in_a_step = stops_in_a_step }

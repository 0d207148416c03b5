use Rattle.run_calls.proofs.Depends.{acts_depend, turns_depend, activations_depend}
use Rattle.run_calls.proofs.calls_law.Goals as goal

pub returns : goal.returns
returns c = record { acts = acts_depend; turns = turns_depend; activations = λ entry turn start. activations_depend entry turn start }

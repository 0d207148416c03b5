use Rattle.prog_check.proofs.Initialising.{initial_found}
use Rattle.prog_check.proofs.initialised.initial_fault.Goals as goal

pub returns : goal.returns
returns c = initial_found c.args.units.now c.in_ok-found.found c.marked.result c.in_ok-found.ensures.first c.marked.ensures

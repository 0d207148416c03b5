use Rattle.prog_check.proofs.Agreeing.{sites_are_callees}
use Rattle.prog_check.proofs.sites_law.Goals as goal

pub returns : goal.returns
returns c = record { callees = sites_are_callees }

use Rattle.f77_semantics.proofs.Sites.{sites_are_callees}
use Rattle.f77_semantics.proofs.sites_law.Goals as goal

pub returns : goal.returns
returns c = record { counted = sites_are_callees }

use Rattle.body_serves.proofs.Served.{passes_compose, serve_further}
use Rattle.body_serves.proofs.passes_law.Goals as goal

pub returns : goal.returns
returns c = record { compose = passes_compose; further = serve_further }

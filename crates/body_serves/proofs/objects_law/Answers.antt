use Rattle.body_serves.proofs.Served.{serve_together}
use Rattle.body_serves.proofs.objects_law.Goals as goal

pub returns : goal.returns
returns c = serve_together

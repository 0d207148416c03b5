use Rattle.body_serves.proofs.Sample.{example_serves}
use Rattle.body_serves.proofs.Shown.{needs_its_record}
use Rattle.body_serves.proofs.example_law.Goals as goal

pub returns : goal.returns
returns c = record { serves = example_serves; needs = needs_its_record }

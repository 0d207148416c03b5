use Rattle.run_records.proofs.Narrowed.{widest_allows, widest_is_kept, widest_serves}
use Rattle.run_records.proofs.widest_law.Goals as goal

pub returns : goal.returns
returns c = record { allows = widest_allows; kept = widest_is_kept; serves = widest_serves }

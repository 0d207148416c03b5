use Rattle.f77_semantics.proofs.Joins.{meaning_joins}
use Rattle.f77_semantics.proofs.joining_law.Goals as goal

pub returns : goal.returns
returns c = record { joins = meaning_joins }

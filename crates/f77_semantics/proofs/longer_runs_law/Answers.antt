use Rattle.f77_semantics.proofs.Extend.{source_extends}
use Rattle.f77_semantics.proofs.longer_runs_law.Goals as goal

pub returns : goal.returns
returns c = record { extends = source_extends }

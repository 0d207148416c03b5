use Rattle.f77_semantics.proofs.Sane.{running_sane, source_sane}
use Rattle.f77_semantics.proofs.sane_law.Goals as goal

pub returns : goal.returns
returns c = record { never_wrong = running_sane; source = source_sane }

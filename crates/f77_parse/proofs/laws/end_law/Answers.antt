use Rattle.f77_parse.proofs.Endings.{end_form}
use Rattle.f77_parse.proofs.laws.end_law.Goals as goal

pub returns : goal.returns
returns c = record { end = end_form }

use Rattle.sound_units.proofs.Entering.{names_fit}
use Rattle.sound_units.proofs.names_law.Goals as goal

pub returns : goal.returns
returns c = record { fit = names_fit }

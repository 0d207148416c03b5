use Rattle.sound_units.proofs.Entering.{names_fit}
use Rattle.sound_units.proofs.Wholes.{unit_ok}
use Rattle.sound_units.proofs.units_law.Goals as goal

pub returns : goal.returns
returns c = record { sound = λ u sound text procedures. unit_ok u sound text procedures (names_fit u sound text procedures) }

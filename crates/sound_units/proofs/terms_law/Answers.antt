use Rattle.sound_units.proofs.Wholes.{terms_have_types}
use Rattle.sound_units.proofs.terms_law.Goals as goal

pub returns : goal.returns
returns c = record { typed = terms_have_types }

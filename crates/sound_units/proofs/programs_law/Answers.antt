use Rattle.sound_units.proofs.Programs.{never_stuck}
use Rattle.sound_units.proofs.programs_law.Goals as goal

pub returns : goal.returns
returns c = record { never_wrong = never_stuck }

use Rattle.sound_units.proofs.Excluding.{functions_agree, called_role}
use Rattle.sound_units.proofs.functions_law.Goals as goal

pub returns : goal.returns
returns c = record { agree = functions_agree; called = called_role }

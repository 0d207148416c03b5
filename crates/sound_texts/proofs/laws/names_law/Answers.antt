use Rattle.sound_texts.proofs.Drafts.{drafts_differ}
use Rattle.sound_texts.proofs.laws.names_law.Goals as goal

pub returns : goal.returns
returns c = record { differ = drafts_differ }

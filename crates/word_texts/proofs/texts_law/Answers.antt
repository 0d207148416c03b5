use Rattle.word_texts.proofs.Trees.{accepted_have, accepted_stay}
use Rattle.word_texts.proofs.texts_law.Goals as goal

pub returns : goal.returns
returns c = record { trees = accepted_have; stays = accepted_stay }

use Rattle.sound_texts.proofs.Trees.{tree_text}
use Rattle.sound_texts.proofs.laws.trees_law.Goals as goal

pub returns : goal.returns
returns c = record { text = tree_text c.end_law.ensures.end }

use Rattle.word_laws.proofs.Runs.{stays, is_source, activations}
use Rattle.word_laws.proofs.word_law.Goals as goal

pub returns : goal.returns
returns c = record { source = stays; same = is_source; activation = activations }

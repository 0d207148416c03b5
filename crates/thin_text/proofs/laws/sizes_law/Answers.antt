use Rattle.thin_text.proofs.Sizes.{size, short, few}
use Rattle.thin_text.proofs.laws.sizes_law.Goals as goal

pub returns : goal.returns
returns c = record { size = size; short = short; few = few }

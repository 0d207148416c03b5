use Rattle.interp_data.specs.Meant.{meant}
use Rattle.interp_data.proofs.meant.meaning_of.Goals as goal

pub returns : goal.returns
unfolding meant
returns c = c.meaning.ensures

use Rattle.std.proofs.Common.{sym, subst}
use Rattle.sound_units.specs.Accepted.{AllAreGood}
use Rattle.table_meaning.proofs.cases.told.Goals as goal

pub interpret-outcome-requires-clause-good : goal.interpret-outcome-requires-clause-good
interpret-outcome-requires-clause-good c = subst AllAreGood (sym c.as_slice.ensures) (c.in_ok-units.ensures {u = tt}).good

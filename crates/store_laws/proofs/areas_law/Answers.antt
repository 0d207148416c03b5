use Rattle.store_laws.proofs.Slots.{slots_within, slots_apart}
use Rattle.store_laws.proofs.Single.{scalars_single}
use Rattle.store_laws.proofs.areas_law.Goals as goal

pub returns : goal.returns
returns c = record { within = slots_within; apart = slots_apart; scalars = scalars_single }

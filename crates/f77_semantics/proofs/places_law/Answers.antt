use Rattle.f77_semantics.proofs.Places.{stays}
use Rattle.f77_semantics.proofs.places_law.Goals as goal

pub returns : goal.returns
returns c = record { stays = stays }

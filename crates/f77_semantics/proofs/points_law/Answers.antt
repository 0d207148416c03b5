use Rattle.f77_semantics.proofs.Points.{places_are_points, turns_everywhere}
use Rattle.f77_semantics.proofs.points_law.Goals as goal

pub returns : goal.returns
returns c = record { places = places_are_points; turns = turns_everywhere }

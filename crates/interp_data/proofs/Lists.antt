-- Lists that are put behind each other.
use Rattle.std.proofs.Common.{append_assoc}
use Rattle.std.proofs.lemmas.List.{map-append}

pub ruleset joined = (append_assoc, map-append)

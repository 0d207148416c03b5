-- Lists that are put behind each other.
use Rattle.std.proofs.Common.{append_assoc}

pub ruleset joined = (append_assoc)

use Rattle.std.proofs.Common.{◌≡◌, length}
use Rattle.f77_expr.specs.Best.{powers}
use Rattle.f77_expr.proofs.parser.grouped.Given as goal

abbrev pub invariant-turn : goal.invariant-turn
invariant-turn l = powers l.bases l.whole ≡ powers l.fn.bases l.fn.last

abbrev pub decreases-turn : goal.decreases-turn
decreases-turn l = length l.bases

use Rattle.std.proofs.Common.{◌≡◌, drop, fold}
use Rattle.check_common.specs.Searching.{with_later, search}
use Rattle.check_common.proofs.again.search.Given as goal

abbrev pub invariant-loop-later : goal.invariant-loop-later
invariant-loop-later l = fold (with_later l.all) l.found (drop l.later-index l.all) ≡ search l.all

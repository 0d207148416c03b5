use Rattle.std.proofs.Common.{◌≡◌, ◌++◌}
use Rattle.iv_set.specs.Sets.{made}
use Rattle.iv_set.specs.Walks.{holds, rest_of, left}
use Rattle.iv_set.proofs.walk.combined.Given as goal

abbrev pub invariant-place : goal.invariant-place
invariant-place l = l.bounds.items ++ rest_of (holds l.rule) l.at ≡ made (holds l.rule) l.first l.second

abbrev pub decreases-place : goal.decreases-place
decreases-place l = left l.at

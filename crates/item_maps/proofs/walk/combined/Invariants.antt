use Rattle.std.proofs.Common.{◌≡◌, ◌++◌}
use Rattle.item_maps.specs.Steps.{made}
use Rattle.item_maps.specs.Walks.{holds, rest_of, left}
use Rattle.item_maps.proofs.walk.combined.Given as goal

abbrev pub invariant-place : goal.invariant-place
invariant-place l = l.steps.items ++ rest_of (holds l.rule) l.at ≡ made (holds l.rule) l.first l.second

abbrev pub decreases-place : goal.decreases-place
decreases-place l = left l.at

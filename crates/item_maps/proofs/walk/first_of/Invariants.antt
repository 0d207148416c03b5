use Rattle.std.proofs.Common.{◌≡◌, None}
use Rattle.item_maps.specs.Steps.{made}
use Rattle.item_maps.specs.Walks.{holds, rest_of, left}
use Rattle.item_maps.proofs.walk.first_of.Given as goal

-- the last place has no value, and what is still to come is all that there is
abbrev pub invariant-place : goal.invariant-place
invariant-place l = record {
  outside : holds l.rule l.at.of_first l.at.of_second ≡ None;
  rest : rest_of (holds l.rule) l.at ≡ made (holds l.rule) l.first l.second;
}

abbrev pub decreases-place : goal.decreases-place
decreases-place l = left l.at

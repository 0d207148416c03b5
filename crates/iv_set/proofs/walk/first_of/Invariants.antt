use Rattle.std.proofs.Common.{◌≡◌, false}
use Rattle.iv_set.specs.Sets.{made}
use Rattle.iv_set.specs.Walks.{holds, rest_of, left}
use Rattle.iv_set.proofs.walk.first_of.Given as goal

-- the last place is no member, and what is still to come is all that there is
abbrev pub invariant-place : goal.invariant-place
invariant-place l = record {
  outside : holds l.rule l.at.in_first l.at.in_second ≡ false;
  rest : rest_of (holds l.rule) l.at ≡ made (holds l.rule) l.first l.second;
}

abbrev pub decreases-place : goal.decreases-place
decreases-place l = left l.at

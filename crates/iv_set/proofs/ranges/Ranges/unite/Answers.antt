use Rattle.std.proofs.Common.{rules, ◌≡◌, ap, ◌∙◌}
use Rattle.iv_set.specs.Toggles.{either}
use Rattle.iv_set.specs.Places.{place_of}
use Rattle.iv_set.specs.Sets.{has_item, made, made_has, either_rule}
use Rattle.iv_set.proofs.ranges.Ranges.unite.Goals as goal

pub returns-clause-united : goal.returns-clause-united
returns-clause-united c =
    let e : c.in_ok-self.field-0 ≡ made either c.args.self.now c.args.other.now = search rules in
    λ i. ap (λ l. has_item l i) e ∙ made_has either_rule c.union.ensures.first c.union.ensures.second (place_of i)

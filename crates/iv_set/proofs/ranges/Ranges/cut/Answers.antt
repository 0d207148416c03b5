use Rattle.std.proofs.Common.{rules, ◌≡◌, ap, sym, ◌∙◌, subst}
use Rattle.iv_set.specs.Toggles.{both}
use Rattle.iv_set.specs.Places.{place_of}
use Rattle.iv_set.specs.Sets.{has_item, made, IsSet, made_set, made_has, both_rule}
use Rattle.iv_set.proofs.ranges.Ranges.cut.Goals as goal

pub invariant_of-result : goal.invariant_of-result
invariant_of-result c =
    let one : IsSet c.args.self.now = subst IsSet c.self.view_is c.self.invariant in
    let other : IsSet c.args.other.now = subst IsSet c.other.view_is c.other.invariant in
    let e : c.in_ok-combined.field-0.items ≡ made both c.args.self.now c.args.other.now = search rules in
    subst IsSet (sym e) (made_set both_rule one other)

pub returns : goal.returns
returns c =
    let one : IsSet c.args.self.now = subst IsSet c.self.view_is c.self.invariant in
    let other : IsSet c.args.other.now = subst IsSet c.other.view_is c.other.invariant in
    let e : c.in_ok-combined.field-0.items ≡ made both c.args.self.now c.args.other.now = search rules in
    λ i. ap (λ l. has_item l i) e ∙ made_has both_rule one other (place_of i)

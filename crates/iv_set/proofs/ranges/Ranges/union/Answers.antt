use Rattle.std.proofs.Common.{rules, ◌≡◌, sym, subst}
use Rattle.iv_set.specs.Toggles.{either}
use Rattle.iv_set.specs.Sets.{made, IsSet, made_set, either_rule}
use Rattle.iv_set.proofs.ranges.Ranges.union.Goals as goal

pub invariant_of-result : goal.invariant_of-result
invariant_of-result c =
    let one : IsSet c.args.self.now = subst IsSet c.self.view_is c.self.invariant in
    let other : IsSet c.args.other.now = subst IsSet c.other.view_is c.other.invariant in
    let e : c.in_ok-combined.field-0.items ≡ made either c.args.self.now c.args.other.now = search rules in
    subst IsSet (sym e) (made_set either_rule one other)

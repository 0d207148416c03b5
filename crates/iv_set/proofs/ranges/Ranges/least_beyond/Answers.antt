use Rattle.std.proofs.Common.{rules, ◌≡◌, sym, ◌∙◌, ap, subst, IsTrue, Some, None}
use Rattle.iv_set.specs.Toggles.{first_alone, head}
use Rattle.iv_set.specs.Places.{place_of, is_item}
use Rattle.iv_set.specs.Sets.{made, IsSet}
use Rattle.iv_set.proofs.Leasts.{beyond_is_item, beyond_least}
use Rattle.iv_set.proofs.ranges.Ranges.least_beyond.Goals as goal

pub item_at-requires : goal.item_at-requires
item_at-requires c =
    let one : IsSet c.args.self.now = subst IsSet c.self.view_is c.self.invariant in
    let other : IsSet c.args.other.now = subst IsSet c.other.view_is c.other.invariant in
    let e : Some c.in-Some.bound.now ≡ head (made first_alone c.args.self.now c.args.other.now) = search rules in
    beyond_is_item one other c.in-Some.bound.now e

pub returns-in_ok-item_at-in-Some : goal.returns-in_ok-item_at-in-Some
returns-in_ok-item_at-in-Some c =
    let one : IsSet c.args.self.now = subst IsSet c.self.view_is c.self.invariant in
    let other : IsSet c.args.other.now = subst IsSet c.other.view_is c.other.invariant in
    let e : Some c.in-Some.bound.now ≡ head (made first_alone c.args.self.now c.args.other.now) = search rules in
    record { least = beyond_least one other c.in-Some.bound.now e c.in_ok-item_at-in-Some.field-0 (c.in_ok-item_at-in-Some.ensures) }

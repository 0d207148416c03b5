use Rattle.std.proofs.Common.{rules, ◌≡◌, subst, Some}
use Rattle.item_maps.specs.Steps.{made, IsSteps, unlike}
use Rattle.item_maps.specs.Walks.{first_place}
use Rattle.item_maps.proofs.Values.{unlike_is_item, unlike_least}
use Rattle.item_maps.proofs.constants.Constants.least_unlike.Goals as goal

pub item_at-requires : goal.item_at-requires
item_at-requires c =
    let one : IsSteps c.args.self.now = subst IsSteps c.self.view_is c.self.invariant in
    let other : IsSteps c.args.other.now = subst IsSteps c.other.view_is c.other.invariant in
    let e : Some c.in-Some.bound.now ≡ first_place (made unlike c.args.self.now c.args.other.now) = search rules in
    unlike_is_item one other c.in-Some.bound.now e

pub returns-in_ok-item_at-in-Some : goal.returns-in_ok-item_at-in-Some
returns-in_ok-item_at-in-Some c =
    let one : IsSteps c.args.self.now = subst IsSteps c.self.view_is c.self.invariant in
    let other : IsSteps c.args.other.now = subst IsSteps c.other.view_is c.other.invariant in
    let e : Some c.in-Some.bound.now ≡ first_place (made unlike c.args.self.now c.args.other.now) = search rules in
    record { least = unlike_least one other c.in-Some.bound.now e c.in_ok-item_at-in-Some.field-0 (c.in_ok-item_at-in-Some.ensures) }

use Rattle.std.proofs.Common.{rules, ◌≡◌, ap, sym, ◌∙◌, subst, false, true}
use Rattle.f77_tree.specs.declared.unit.Value.TheVariants.{Logical}
use Rattle.iv_set.specs.Sets.{IsSet}
use Rattle.item_maps.specs.Steps.{get, made, IsSteps, where_second}
use Rattle.item_maps.specs.Walks.{spread}
use Rattle.item_maps.proofs.Values.{restricted_steps, restricted_value}
use Rattle.item_maps.proofs.constants.Constants.restricted.Goals as goal

pub invariant_of-result : goal.invariant_of-result
invariant_of-result c =
    let one : IsSteps c.args.self.now = subst IsSteps c.self.view_is c.self.invariant in
    let e : c.in_ok-combined.field-0.items ≡ made where_second c.args.self.now (spread (Logical true) false c.args.to.now) = search rules in
    subst IsSteps (sym e) (restricted_steps one c.bounds.ensures.set (Logical true))

pub returns : goal.returns
returns c =
    let one : IsSteps c.args.self.now = subst IsSteps c.self.view_is c.self.invariant in
    let e : c.in_ok-combined.field-0.items ≡ made where_second c.args.self.now (spread (Logical true) false c.args.to.now) = search rules in
    λ i. ap (λ l. get l i) e ∙ restricted_value one c.bounds.ensures.set (Logical true) i

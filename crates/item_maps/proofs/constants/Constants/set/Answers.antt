use Rattle.std.proofs.Common.{rules, ◌≡◌, ap, sym, ◌∙◌, subst, false, Some, if◌then◌else◌}
use Rattle.iv_set.specs.Toggles.{either}
use Rattle.iv_set.specs.Places.{between}
use Rattle.iv_set.specs.Sets.{has_item, IsSet}
use Rattle.item_maps.specs.Steps.{get, made, IsSteps, over}
use Rattle.item_maps.specs.Walks.{spread}
use Rattle.item_maps.proofs.Values.{given_steps, given_value}
use Rattle.item_maps.proofs.constants.Constants.set.Goals as goal

pub invariant_of-self : goal.invariant_of-self
invariant_of-self c =
    let one : IsSteps c.args.self.now = subst IsSteps c.self.view_is c.self.invariant in
    let e : c.in_ok-self-inside.field-0.items ≡ made over c.args.self.now (spread c.args.value false c.add.new.self) = search rules in
    subst IsSteps (sym e) (given_steps one c.bounds.ensures.set c.args.value)

pub returns-clause-given : goal.returns-clause-given
returns-clause-given c =
    let one : IsSteps c.args.self.now = subst IsSteps c.self.view_is c.self.invariant in
    let e : c.in_ok-self-inside.field-0.items ≡ made over c.args.self.now (spread c.args.value false c.add.new.self) = search rules in
    let from = c.args.from.now in
    let to = c.args.to.now in
    λ i.
    ap (λ l. get l i) e ∙ given_value one c.bounds.ensures.set c.args.value i
    ∙ ap (λ b. if b then Some c.args.value else get c.args.self.now i) (c.in_ok-add.ensures.added i ∙ ap (λ b. either b (between from to i)) (c.in_ok-run.ensures.none i))

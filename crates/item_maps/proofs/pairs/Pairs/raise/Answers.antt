use Rattle.std.proofs.Common.{rules, ◌≡◌, ◌≢◌, ℕ, ap, ◌∙◌, subst, []}
use Rattle.std.specs.Ordering.{nat_cmp}
use Rattle.std.proofs.lemmas.Cmp.{nat_cmp_total}
use Rattle.std.proofs.lemmas.Map.Lookups.{exact_unsigned}
use Rattle.f77_tree.specs.declared.unit.Item.{Item}
use Rattle.rn_lattice.specs.Maps.{get}
use Rattle.rn_lattice.specs.MapOrders.{at_value}
use Rattle.iv_set.specs.Toggles.{either}
use Rattle.iv_set.specs.Places.{between}
use Rattle.iv_set.specs.Sets.{has_item, IsSet, set_order}
use Rattle.item_maps.specs.Relation.{of_dummy, adds, IsPairs}
use Rattle.item_maps.proofs.Raising.{raised, raised_pairs, both_ways}
use Rattle.item_maps.proofs.pairs.Pairs.raise.Goals as goal

pub invariant_of-self : goal.invariant_of-self
invariant_of-self c =
    let pairs : IsPairs c.args.self.now = subst IsPairs c.self.view_is c.self.invariant in
    let one : IsSet (of_dummy c.args.self.now c.args.dummy) = at_value nat_cmp_total exact_unsigned set_order c.args.self.now pairs.map c.args.dummy in
    let others : (q : ℕ) → q ≢ c.args.dummy → get nat_cmp c.raise.new.self q ≡ get nat_cmp c.args.self.now q = search rules in
    let run : (i : Item) → has_item c.add.new.self i ≡ between c.args.from.now c.args.to.now i = λ i. c.in_ok-add.ensures.added i ∙ ap (λ b. either b (between c.args.from.now c.args.to.now i)) (c.in_ok-set.ensures.none i) in
    raised_pairs c.args.self.now c.raise.new.self c.args.dummy c.add.new.self pairs.map one c.in-Ok.ensures.value (search rules) others c.args.from.now c.args.to.now run pairs c.in-Ok.ensures.map c.requires.follows

pub returns-in-Ok : goal.returns-in-Ok
returns-in-Ok c =
    let pairs : IsPairs c.args.self.now = subst IsPairs c.self.view_is c.self.invariant in
    let one : IsSet (of_dummy c.args.self.now c.args.dummy) = at_value nat_cmp_total exact_unsigned set_order c.args.self.now pairs.map c.args.dummy in
    let others : (q : ℕ) → q ≢ c.args.dummy → get nat_cmp c.raise.new.self q ≡ get nat_cmp c.args.self.now q = search rules in
    let run : (i : Item) → has_item c.add.new.self i ≡ between c.args.from.now c.args.to.now i = λ i. c.in_ok-add.ensures.added i ∙ ap (λ b. either b (between c.args.from.now c.args.to.now i)) (c.in_ok-set.ensures.none i) in
    both_ways c.args.self.now c.raise.new.self (adds c.args.dummy c.args.from.now c.args.to.now)
    (raised c.args.self.now c.raise.new.self c.args.dummy c.add.new.self pairs.map one c.in-Ok.ensures.value (search rules) others c.args.from.now c.args.to.now run)

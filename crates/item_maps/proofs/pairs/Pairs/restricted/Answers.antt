use Rattle.std.proofs.Common.{rules, ◌≡◌, ℕ, ap, sym, ◌∙◌, subst, []}
use Rattle.f77_tree.specs.declared.unit.Item.{Item}
use Rattle.iv_set.specs.Toggles.{either}
use Rattle.iv_set.specs.Sets.{has_item}
use Rattle.item_maps.specs.Relation.{of_dummy, IsPairs}
use Rattle.item_maps.specs.Passes.{any_keeps}
use Rattle.item_maps.proofs.Entries.{either_none}
use Rattle.item_maps.proofs.Inclusion.{restricted_pairs, restricted_paired}
use Rattle.item_maps.proofs.pairs.Pairs.restricted.Goals as goal

pub invariant_of-result : goal.invariant_of-result
invariant_of-result c =
    let pairs : IsPairs c.args.self.now = subst IsPairs c.self.view_is c.self.invariant in
    let made : (q : ℕ) (i : Item) → has_item (of_dummy c.loop-dummy.map q) i ≡ any_keeps c.args.own.now c.args.self.now q i = λ q i.
    sym (either_none (has_item (of_dummy c.loop-dummy.map q) i)) ∙ ap (λ l. either (has_item (of_dummy c.loop-dummy.map q) i) (any_keeps c.args.own.now l q i)) (sym c.in-None.ensures.steps.0) ∙ c.loop-dummy.invariant.kept q i in
    restricted_pairs c.args.self.now c.loop-dummy.map c.args.own.now pairs c.loop-dummy.invariant.map made

pub returns : goal.returns
returns c =
    let pairs : IsPairs c.args.self.now = subst IsPairs c.self.view_is c.self.invariant in
    let made : (q : ℕ) (i : Item) → has_item (of_dummy c.loop-dummy.map q) i ≡ any_keeps c.args.own.now c.args.self.now q i = λ q i.
    sym (either_none (has_item (of_dummy c.loop-dummy.map q) i)) ∙ ap (λ l. either (has_item (of_dummy c.loop-dummy.map q) i) (any_keeps c.args.own.now l q i)) (sym c.in-None.ensures.steps.0) ∙ c.loop-dummy.invariant.kept q i in
    restricted_paired c.args.self.now c.loop-dummy.map c.args.own.now pairs c.loop-dummy.invariant.map made

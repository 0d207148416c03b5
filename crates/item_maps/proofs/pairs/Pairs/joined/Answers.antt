use Rattle.std.proofs.Common.{rules, ◌≡◌, ap, sym, ◌∙◌, subst, []}
use Rattle.iv_set.specs.Toggles.{either}
use Rattle.iv_set.specs.Sets.{has_item}
use Rattle.item_maps.specs.Relation.{IsPairs}
use Rattle.item_maps.specs.Passes.{any_brings}
use Rattle.item_maps.proofs.Entries.{either_none}
use Rattle.item_maps.proofs.Bringing.{joined_by}
use Rattle.item_maps.proofs.pairs.Pairs.joined.Goals as goal

pub returns : goal.returns
returns c =
    let pairs : IsPairs c.args.self.now = subst IsPairs c.self.view_is c.self.invariant in
    let all = c.loop-dummy.all in
    joined_by c.args.self.now c.args.set.now all pairs.map c.copy.ensures.set (λ i.
    sym (either_none (has_item all i)) ∙ ap (λ l. either (has_item all i) (any_brings c.args.set.now l i)) (sym c.in-None.ensures.steps.0) ∙ c.loop-dummy.invariant i)

use Rattle.std.proofs.Common.{rules, ◌≡◌, ◌+◌, ◌≤◌, ap, ◌∙◌, subst, arith}
use Rattle.iv_set.specs.Toggles.{either}
use Rattle.item_maps.specs.Relation.{paired}
use Rattle.item_maps.specs.Passes.{adds_up_to}
use Rattle.item_maps.proofs.Raising.{up_to_more, up_to_ends}
use Rattle.item_maps.proofs.pairs.Pairs.add_dummies.Goals as goal

pub loop-other-preserved : goal.loop-other-preserved
loop-other-preserved c = λ x y.
    up_to_more (paired c.args.self.now x y) (paired c.loop-other.self x y) (paired c.add_two.new.self x y) c.args.dummy c.args.first c.loop-other.other x y (omega arith) (c.loop-other.invariant x y) (c.in_ok-add_two.ensures x y)

pub returns : goal.returns
returns c =
    let end : c.loop-other.other ≡ c.args.last + 1 = omega arith in
    λ x y.
    c.loop-other.invariant x y
    ∙ ap (λ k. either (paired c.args.self.now x y) (either (adds_up_to c.args.dummy c.args.first k x y) (adds_up_to c.args.dummy c.args.first k y x))) end
    ∙ up_to_ends (paired c.args.self.now x y) c.args.dummy c.args.first c.args.last x y

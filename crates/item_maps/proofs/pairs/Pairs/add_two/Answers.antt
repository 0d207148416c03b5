use Rattle.std.proofs.Common.{◌≡◌, ap, ◌∙◌}
use Rattle.iv_set.specs.Toggles.{either}
use Rattle.item_maps.specs.Relation.{paired}
use Rattle.item_maps.proofs.Raising.{adds_two, adds_two_turned}
use Rattle.item_maps.proofs.pairs.Pairs.add_two.Goals as goal

pub returns-in_ok-raise : goal.returns-in_ok-raise
returns-in_ok-raise c = λ x y. c.in_ok-raise.ensures x y ∙ ap (either (paired c.args.self.now x y)) (adds_two c.args.dummy c.args.other x y)

pub returns-in_ok-raise-2 : goal.returns-in_ok-raise-2
returns-in_ok-raise-2 c = λ x y. c.in_ok-raise-2.ensures x y ∙ ap (either (paired c.args.self.now x y)) (adds_two_turned c.args.dummy c.args.other x y)

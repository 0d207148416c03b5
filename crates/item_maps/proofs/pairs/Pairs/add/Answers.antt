use Rattle.std.proofs.Common.{◌≡◌}
use Rattle.item_maps.proofs.pairs.Pairs.add.Goals as goal

pub returns-in_ok-add_dummies-in-Dummy-to : goal.returns-in_ok-add_dummies-in-Dummy-to
returns-in_ok-add_dummies-in-Dummy-to c = rw (c.in-Dummy.is, c.in-Dummy-to.is) c.in_ok-add_dummies-in-Dummy-to.ensures

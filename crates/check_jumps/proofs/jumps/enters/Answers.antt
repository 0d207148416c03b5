use Rattle.check_jumps.proofs.Crossing.{enters_by_range, enters_by_arm}
use Rattle.check_jumps.proofs.jumps.enters.Goals as goal

pub returns-then-enters : goal.returns-then-enters
returns-then-enters c = enters_by_range _ _ _ _ _ c.requires.right.of_ranges c.requires.right.of_arms c.if-enters.ensures

pub returns : goal.returns
returns c = enters_by_arm _ _ _ _ _ _ c.requires.right.of_ranges c.requires.right.of_arms c.if-enters.ensures c.enters-2.ensures

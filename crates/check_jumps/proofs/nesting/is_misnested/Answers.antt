use Rattle.f77_flow.specs.Checks as checks
use Rattle.check_jumps.proofs.Crossing.{by_end, by_block, by_overlap}
use Rattle.check_jumps.proofs.nesting.is_misnested.Goals as goal

pub returns-then-lacks_end : goal.returns-then-lacks_end
returns-then-lacks_end c = by_end _ _ c.if-lacks_end.ensures

pub returns-then-lacks_block : goal.returns-then-lacks_block
returns-then-lacks_block c = by_block _ _ c.if-lacks_block.ensures

pub returns-then-stands_behind_else : goal.returns-then-stands_behind_else
returns-then-stands_behind_else c = checks.behind_else c.if-stands_behind_else.ensures

pub returns-then-leaves_arm : goal.returns-then-leaves_arm
returns-then-leaves_arm c = checks.leaves_arm c.if-leaves_arm.ensures

pub returns : goal.returns
returns c = by_overlap _ _ _ c.if-lacks_end.ensures c.if-lacks_block.ensures c.if-stands_behind_else.ensures c.if-leaves_arm.ensures c.overlaps.ensures

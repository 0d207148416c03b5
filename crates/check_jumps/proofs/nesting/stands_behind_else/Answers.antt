use Rattle.std.proofs.Common.{◌<◌, length, arith}
use Rattle.check_jumps.proofs.Opening.{part_ends}
use Rattle.check_jumps.proofs.Crossing.{behind_by, not_behind}
use Rattle.check_jumps.proofs.nesting.stands_behind_else.Goals as goal

pub returns-then-not-is_part : goal.returns-then-not-is_part
returns-then-not-is_part c = not_behind _ _ c.if-not-is_part.ensures

pub returns : goal.returns
returns c =
    let ends = part_ends _ _ c.if-not-is_part.ensures in
    let within : c.end_if-end.result < length c.args.nests.now.parts.control.statements.now = omega (arith, ends, c.end_if-end.ensures) in
    rw c.as_slice.ensures (behind_by _ c.args.k c.end_if-end.result _ c.if-not-is_part.ensures c.end_if-end.ensures (c.requires.right.of_elses.each _ within))
